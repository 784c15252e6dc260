use Rattle.std.proofs.Common.{◌≡◌, ◌<◌, ◌++◌, All, List, length}
use Rattle.std.specs.Prelude.{option_map}
use Rattle.eo_term.specs.Growth.{tree_in, trees_in}
use Rattle.eo_term.specs.Tree.{Tree, tree_eq}
use Rattle.eo_lists.specs.Lists.{erase}
use Rattle.eo_lists.specs.Parts.{spelled_in}
use Rattle.eo_lists.proofs.operators.list_erase.Given as goal

-- the items in front stay, and with those that are left they are the whole
abbrev pub invariant-loop-item : goal.invariant-loop-item
invariant-loop-item l = record {
  same : l.table ≡ l.fn.table;
  live : l.rest < length l.fn.table.trees;
  front : All (λ j. j < length l.fn.table.trees) l.front;
  whole : spelled_in l.fn.table l.fn.form l.fn.list ≡ option_map (λ xs. trees_in l.fn.table l.front ++ xs) (spelled_in l.fn.table l.fn.form l.rest);
  stay : (xs : List Tree) → erase tree_eq (tree_in l.fn.table l.fn.item) (trees_in l.fn.table l.front ++ xs) ≡ trees_in l.fn.table l.front ++ erase tree_eq (tree_in l.fn.table l.fn.item) xs;
}

-- what is left is an older term
abbrev pub decreases-loop-item : goal.decreases-loop-item
decreases-loop-item l = l.rest
