use Rattle.std.proofs.Common.{◌≡◌, ◌<◌, length, map, drop}
use Rattle.eo_term.specs.Terms.{tree_at}
use Rattle.eo_term.specs.Growth.{Grows}
use Rattle.eo_names.specs.Folding.{applied}
use Rattle.eo_names.proofs.fold.apply_to_all.Given as goal

abbrev pub invariant-loop-a : goal.invariant-loop-a
invariant-loop-a l = record {
  live : l.made < length l.table.trees;
  grows : Grows l.fn.table l.table;
  tree : applied (tree_at l.table.trees l.made) (map (tree_at l.fn.table.trees) (drop l.a-index l.args)) ≡ applied (tree_at l.fn.table.trees l.fn.f) (map (tree_at l.fn.table.trees) l.args);
}
