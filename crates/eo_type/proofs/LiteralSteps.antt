-- Reading terms as literals, one after another.
use Rattle.std.specs.Prelude.{◌≡◌, List, [], ◌∷◌, ◌++◌, Option, Some, None, option_map, option_and_then, refl}
use Rattle.std.proofs.Common.{ap, ◌∙◌, sym, append_assoc}
use Rattle.eo_term.specs.Tree.{Tree}
use Rattle.eo_ops.specs.Operators.{Literal, literal, literals}

-- what is left of the terms begins with one that is a literal, or with one that is none
module _ (found : List Literal) (t : Tree) (ts xs : List Tree) (e : literals xs ≡ option_map (λ ls. found ++ ls) (literals (t ∷ ts))) where
  pub one_more : (l : Literal) → Some l ≡ literal t → literals xs ≡ option_map (λ ls. (found ++ l ∷ []) ++ ls) (literals ts)
  one_more l h = e ∙ ap (λ o. option_map (λ ls. found ++ ls) (option_and_then (λ k. option_map (λ ls. k ∷ ls) (literals ts)) o)) (sym h) ∙ by (literals ts)
    where
      by : (o : Option (List Literal)) → option_map (λ ls. found ++ ls) (option_map (λ ls. l ∷ ls) o) ≡ option_map (λ ls. (found ++ l ∷ []) ++ ls) o
      by None = refl
      by (Some ls) = ap Some (sym (append_assoc found (l ∷ []) ls))

  pub none_more : None ≡ literal t → None ≡ literals xs
  none_more h = sym (e ∙ ap (λ o. option_map (λ ls. found ++ ls) (option_and_then (λ k. option_map (λ ls. k ∷ ls) (literals ts)) o)) (sym h))
