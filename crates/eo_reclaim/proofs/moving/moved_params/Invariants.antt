use Rattle.std.proofs.Common.{◌≡◌, ◌++◌, take}
use Rattle.eo_reclaim.specs.Moving.{param_ids, blank_params}
use Rattle.eo_reclaim.proofs.moving.moved_params.Given as goal

abbrev pub invariant-loop-p : goal.invariant-loop-p
invariant-loop-p l = record {
  same : blank_params l.moved ≡ blank_params (take l.p-index l.p-items);
  taken : l.fn.ids ≡ param_ids l.moved ++ l.ids;
}
