use Rattle.std.proofs.Common.{◌≡◌, ◌++◌, take}
use Rattle.std.specs.Prelude.{flat_map}
use Rattle.eo_reclaim.specs.Moving.{case_ids}
use Rattle.eo_reclaim.proofs.moving.push_cases.Given as goal

abbrev pub invariant-loop-case : goal.invariant-loop-case
invariant-loop-case l = l.ids.items ≡ l.fn.ids.items ++ flat_map case_ids (take l.case-index l.case-items)
