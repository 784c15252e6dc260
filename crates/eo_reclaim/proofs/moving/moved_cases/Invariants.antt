use Rattle.std.proofs.Common.{◌≡◌, ◌++◌, map, take}
use Rattle.std.specs.Prelude.{flat_map}
use Rattle.eo_reclaim.specs.Moving.{case_ids, blank_case}
use Rattle.eo_reclaim.proofs.moving.moved_cases.Given as goal

abbrev pub invariant-loop-case : goal.invariant-loop-case
invariant-loop-case l = record {
  same : map blank_case l.moved ≡ map blank_case (take l.case-index l.case-items);
  taken : l.fn.ids ≡ flat_map case_ids l.moved ++ l.ids;
}
