use Rattle.std.proofs.Common.{◌≡◌, ◌<◌, ◌-◌, ◌++◌, length, map, drop, All}
use Rattle.eo_term.specs.Terms.{tree_at}
use Rattle.eo_term.specs.Growth.{Grows}
use Rattle.eo_names.specs.Folding.{links}
use Rattle.eo_names.proofs.joins.neighbours.Given as goal

abbrev pub invariant-loop-i : goal.invariant-loop-i
invariant-loop-i l = record {
  live : All (λ j. j < length l.table.trees) l.made;
  grows : Grows l.fn.table l.table;
  trees : map (tree_at l.table.trees) l.made ++ links (tree_at l.fn.table.trees l.fn.f) (drop (l.i - 1) (map (tree_at l.fn.table.trees) l.args)) ≡ links (tree_at l.fn.table.trees l.fn.f) (map (tree_at l.fn.table.trees) l.args);
}
