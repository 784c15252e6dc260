use Rattle.std.proofs.Common.{◌≡◌, ◌<◌, ◌≤◌, length, map, drop}
use Rattle.eo_term.specs.Terms.{tree_at}
use Rattle.eo_term.specs.Growth.{Grows}
use Rattle.eo_lists.specs.Lists.{spell}
use Rattle.eo_lists.proofs.build.build.Given as goal

abbrev pub invariant-loop-left : goal.invariant-loop-left
invariant-loop-left l = record {
  within : l.left ≤ length l.items;
  live : l.made < length l.table.trees;
  grows : Grows l.fn.table l.table;
  tree : tree_at l.table.trees l.made ≡ spell (tree_at l.fn.table.trees l.fn.fun) (tree_at l.fn.table.trees l.fn.end) (drop l.left (map (tree_at l.fn.table.trees) l.items));
}

abbrev pub decreases-loop-left : goal.decreases-loop-left
decreases-loop-left l = l.left
