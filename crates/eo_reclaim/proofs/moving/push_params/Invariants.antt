use Rattle.std.proofs.Common.{◌≡◌, ◌++◌, take}
use Rattle.eo_reclaim.specs.Moving.{param_ids}
use Rattle.eo_reclaim.proofs.moving.push_params.Given as goal

abbrev pub invariant-loop-p : goal.invariant-loop-p
invariant-loop-p l = l.ids.items ≡ l.fn.ids.items ++ param_ids (take l.p-index l.p-items)
