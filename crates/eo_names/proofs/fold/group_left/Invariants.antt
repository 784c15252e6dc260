use Rattle.std.proofs.Common.{◌≡◌, ◌<◌, length, map, drop, fold}
use Rattle.eo_term.specs.Terms.{tree_at}
use Rattle.eo_term.specs.Growth.{Grows}
use Rattle.eo_names.specs.Folding.{applied_to_two}
use Rattle.eo_names.proofs.fold.group_left.Given as goal

abbrev pub invariant-loop-a : goal.invariant-loop-a
invariant-loop-a l = record {
  live : l.made < length l.table.trees;
  grows : Grows l.fn.table l.table;
  tree : fold (applied_to_two (tree_at l.fn.table.trees l.fn.f)) (tree_at l.table.trees l.made) (map (tree_at l.fn.table.trees) (drop l.a-index l.args)) ≡ fold (applied_to_two (tree_at l.fn.table.trees l.fn.f)) (tree_at l.fn.table.trees l.fn.first) (map (tree_at l.fn.table.trees) l.args);
}
