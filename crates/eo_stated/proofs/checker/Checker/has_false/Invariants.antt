use Rattle.std.proofs.Common.{◌≡◌, map, drop}
use Rattle.std.specs.List.{list_any}
use Rattle.eo_cert.specs.Recheck.{has_false}
use Rattle.eo_stated.specs.Checking.{stated_of, read_derivation, is_false}
use Rattle.eo_stated.proofs.checker.Checker.has_false.Given as goal

abbrev pub invariant-loop-derivation : goal.invariant-loop-derivation
invariant-loop-derivation l =
    has_false (stated_of l.self) ≡ list_any is_false (map (read_derivation l.self.table.trees) (drop l.derivation-index l.self.derivations.items))
