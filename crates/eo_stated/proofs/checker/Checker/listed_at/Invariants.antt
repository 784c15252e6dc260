use Rattle.std.proofs.Common.{◌<◌, length, map, All}
use Rattle.eo_cert.specs.Stated as stated
use Rattle.eo_stated.specs.Checking.{stated_of, read_evaluated, EvaluatedBelow, IsShallow}
use Rattle.eo_stated.proofs.EachFound.{EachFound}
use Rattle.eo_stated.proofs.checker.Checker.listed_at.Given as goal

abbrev pub invariant-loop-number : goal.invariant-loop-number
invariant-loop-number l =
    record { found : EachFound (stated.evaluated_at (stated_of l.self)) l.numbers l.number-index (map (read_evaluated l.self.table.trees) l.listed.items); live : All (EvaluatedBelow (length l.self.table.trees)) l.listed.items; shallow : All (IsShallow (length l.self.block.items)) l.listed.items }
