use Rattle.std.proofs.Common.{◌≡◌, ℕ, ◌≤◌, length, map, take, slice_get}
use Rattle.eo_pattern.specs.Slots.{held, AreBelow}
use Rattle.eo_term.specs.Terms.{tree_at}
use Rattle.eo_names.proofs.arguments.put_in.Given as goal

abbrev pub invariant-loop-i : goal.invariant-loop-i
invariant-loop-i l = record {
  room : length l.args ≤ length l.values.values;
  below : AreBelow (length l.table.trees) l.values;
  held : (j : ℕ) → held l.table.trees l.values j ≡ slice_get (take l.i (map (tree_at l.table.trees) l.args)) j;
}
