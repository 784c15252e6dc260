use Rattle.std.proofs.Common.{◌≡◌, ◌<◌, length, map, drop}
use Rattle.eo_term.specs.Terms.{tree_at}
use Rattle.eo_term.specs.Growth.{Grows}
use Rattle.eo_names.specs.Folding.{arrow}
use Rattle.eo_names.proofs.arguments.arrow_or_leave.Given as goal

abbrev pub invariant-loop-left : goal.invariant-loop-left
invariant-loop-left l = record {
  within : l.left < length l.types;
  live : l.made < length l.table.trees;
  grows : Grows l.fn.table l.table;
  tree : tree_at l.table.trees l.made ≡ arrow (drop l.left (map (tree_at l.fn.table.trees) l.types));
}

abbrev pub decreases-loop-left : goal.decreases-loop-left
decreases-loop-left l = l.left
