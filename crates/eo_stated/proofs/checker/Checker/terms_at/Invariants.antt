use Rattle.std.proofs.Common.{◌≡◌, ◌<◌, length, All}
use Rattle.eo_term.specs.Growth.{trees_in}
use Rattle.eo_cert.specs.Stated as stated
use Rattle.eo_stated.specs.Checking.{stated_of}
use Rattle.eo_stated.proofs.EachFound.{EachFound}
use Rattle.eo_stated.proofs.checker.Checker.terms_at.Given as goal

abbrev pub invariant-loop-number : goal.invariant-loop-number
invariant-loop-number l =
    record { found : EachFound (stated.term_at (stated_of l.self)) l.numbers l.number-index (trees_in l.self.table l.ids.items); live : All (λ j. j < length l.self.table.trees) l.ids.items }
