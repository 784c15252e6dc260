use Rattle.std.proofs.Common.{◌≡◌, ◌++◌, take}
use Rattle.std.specs.Prelude.{flat_map}
use Rattle.eo_reclaim.specs.Moving.{pair_ids}
use Rattle.eo_reclaim.proofs.moving.push_pairs.Given as goal

abbrev pub invariant-loop-pair : goal.invariant-loop-pair
invariant-loop-pair l = l.ids.items ≡ l.fn.ids.items ++ flat_map pair_ids (take l.pair-index l.pair-items)
