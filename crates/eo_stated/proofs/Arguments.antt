-- Arguments by their numbers.
use Rattle.std.proofs.Common.{◌≡◌, refl, ℕ, List, [], ◌∷◌, map}
use Rattle.eo_term.specs.Tree.{Tree, More, to_trees}
use Rattle.eo_term.specs.Terms.{tree_at, trees_at}

pub to_trees_at : (ts : List Tree) (is : List ℕ) → to_trees (map (tree_at ts) is) ≡ trees_at ts is
to_trees_at ts [] = refl
to_trees_at ts (i ∷ is) = λ k. More (tree_at ts i) (to_trees_at ts is k)
