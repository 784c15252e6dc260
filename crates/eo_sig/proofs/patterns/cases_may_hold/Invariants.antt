use Rattle.std.proofs.Common.{◌≡◌, drop, map}
use Rattle.std.specs.List.{list_all}
use Rattle.eo_sig.specs.Signature as sig
use Rattle.eo_sig.specs.Reading.{read_case}
use Rattle.eo_sig.proofs.patterns.cases_may_hold.Given as goal

abbrev pub invariant-loop-case : goal.invariant-loop-case
invariant-loop-case l = list_all sig.case_may_hold (map (read_case l.table.trees) (drop l.case-index l.cases)) ≡ list_all sig.case_may_hold (map (read_case l.table.trees) l.cases)
