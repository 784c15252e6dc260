use Rattle.std.proofs.Common.{◌≡◌, ◌<◌, length, map, drop, fold}
use Rattle.eo_term.specs.Terms.{tree_at}
use Rattle.eo_term.specs.Growth.{Grows}
use Rattle.eo_lists.specs.Parts.{onto}
use Rattle.eo_lists.proofs.build.build_reversed.Given as goal

abbrev pub invariant-loop-item : goal.invariant-loop-item
invariant-loop-item l = record {
  live : l.made < length l.table.trees;
  grows : Grows l.fn.table l.table;
  tree : fold (onto (tree_at l.fn.table.trees l.fn.fun)) (tree_at l.table.trees l.made) (map (tree_at l.fn.table.trees) (drop l.item-index l.items)) ≡ fold (onto (tree_at l.fn.table.trees l.fn.fun)) (tree_at l.fn.table.trees l.fn.end) (map (tree_at l.fn.table.trees) l.items);
}
