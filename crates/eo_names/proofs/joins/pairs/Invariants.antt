use Rattle.std.proofs.Common.{◌≡◌, ◌<◌, ◌++◌, length, map, drop, All}
use Rattle.eo_term.specs.Terms.{tree_at}
use Rattle.eo_term.specs.Growth.{Grows}
use Rattle.eo_names.specs.Folding.{all_pairs}
use Rattle.eo_names.proofs.joins.pairs.Given as goal

abbrev pub invariant-loop-i : goal.invariant-loop-i
invariant-loop-i l = record {
  live : All (λ j. j < length l.table.trees) l.made;
  grows : Grows l.fn.table l.table;
  trees : map (tree_at l.table.trees) l.made ++ all_pairs (tree_at l.fn.table.trees l.fn.f) (drop l.i (map (tree_at l.fn.table.trees) l.args)) ≡ all_pairs (tree_at l.fn.table.trees l.fn.f) (map (tree_at l.fn.table.trees) l.args);
}
