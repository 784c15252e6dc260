use Rattle.std.proofs.Common.{◌≡◌, ◌++◌, length}
use Rattle.std.specs.Prelude.{flat_map}
use Rattle.eo_reclaim.specs.Moving.{pair_ids}
use Rattle.eo_reclaim.proofs.moving.moved_pairs.Given as goal

abbrev pub invariant-loop : goal.invariant-loop
invariant-loop l = record {
  count : length l.moved ≡ l.counter;
  taken : l.fn.ids ≡ flat_map pair_ids l.moved ++ l.ids;
}
