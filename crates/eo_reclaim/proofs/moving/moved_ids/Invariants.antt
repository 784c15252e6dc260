use Rattle.std.proofs.Common.{◌≡◌, ◌++◌, length}
use Rattle.eo_reclaim.proofs.moving.moved_ids.Given as goal

abbrev pub invariant-loop : goal.invariant-loop
invariant-loop l = record {
  count : length l.moved ≡ l.counter;
  taken : l.fn.ids ≡ l.moved ++ l.ids;
}
