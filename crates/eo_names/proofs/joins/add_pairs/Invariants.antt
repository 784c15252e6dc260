use Rattle.std.proofs.Common.{◌≡◌, ◌<◌, ◌++◌, length, map, drop, All}
use Rattle.eo_term.specs.Terms.{tree_at}
use Rattle.eo_term.specs.Growth.{Grows}
use Rattle.eo_names.specs.Folding.{applied_to_two}
use Rattle.eo_names.proofs.joins.add_pairs.Given as goal

abbrev pub invariant-loop-b : goal.invariant-loop-b
invariant-loop-b l = record {
  live : All (λ j. j < length l.table.trees) l.made;
  grows : Grows l.fn.table l.table;
  trees : map (tree_at l.table.trees) l.made ++ map (applied_to_two (tree_at l.fn.table.trees l.fn.f) (tree_at l.fn.table.trees l.fn.a)) (map (tree_at l.fn.table.trees) (drop l.b-index l.others))
      ≡ map (tree_at l.fn.table.trees) l.fn.made ++ map (applied_to_two (tree_at l.fn.table.trees l.fn.f) (tree_at l.fn.table.trees l.fn.a)) (map (tree_at l.fn.table.trees) l.others);
}
