-- Terms among others, by their numbers.
use Rattle.std.proofs.Common.{◌≡◌, refl, ℕ, ◌<◌, List, [], ◌∷◌, length, map, All, ◌∙◌}
use Rattle.std.specs.Prelude.{nat_eq, ◌||◌}
use Rattle.std.specs.List.{list_any}
use Rattle.std.proofs.lemmas.List.Elements.{All-head, All-tail}
use Rattle.eo_term.specs.Tree.{Tree, tree_eq}
use Rattle.eo_term.specs.Terms.{tree_at}

-- a tree is among those of some terms exactly where its term is one of them
pub among : (ts : List Tree) → ((i j : ℕ) → i < length ts → j < length ts → tree_eq (tree_at ts i) (tree_at ts j) ≡ nat_eq i j)
    → (is : List ℕ) (i : ℕ) → i < length ts → All (λ j. j < length ts) is → list_any (tree_eq (tree_at ts i)) (map (tree_at ts) is) ≡ list_any (nat_eq i) is
among ts equals [] i lt h = refl
among ts equals (j ∷ is) i lt h =
    λ k. equals i j lt (All-head (λ j. j < length ts) j is h) k || among ts equals is i lt (All-tail (λ j. j < length ts) j is h) k
