-- Lists of which each item has a shape.
use Rattle.std.proofs.Common.{◌≡◌, suc, List, [], ◌∷◌, Option, None, Some, refl, ap, sym, ◌∙◌, rules}
use Rattle.std.specs.Prelude.{option_map, option_and_then, length}
use Rattle.std.specs.Option.{IsSome}
use Rattle.std.proofs.lemmas.Option.{none-some}
use Rattle.eo_shape.specs.Shapes.{every}

module _ {A B : Type 0} (f : A → Option B) where
  -- what the first item and the others have
  pub every-cons : (x : A) (xs : List A) (ys : List B) → every f (x ∷ xs) ≡ Some ys → (y : B) × (zs : List B) × (f x ≡ Some y) × (every f xs ≡ Some zs) × (ys ≡ y ∷ zs)
  every-cons x xs ys e = by (f x) (every f xs) refl refl e
    where
      by : (o : Option B) (rest : Option (List B)) → f x ≡ o → every f xs ≡ rest → option_and_then (λ y. option_map (λ zs. y ∷ zs) rest) o ≡ Some ys → (y : B) × (zs : List B) × (f x ≡ Some y) × (every f xs ≡ Some zs) × (ys ≡ y ∷ zs)
      by None rest first others e = absurd (none-some ys e)
      by (Some y) None first others e = absurd (none-some ys e)
      by (Some y) (Some zs) first others e = (y, zs, first, others, cc)

  pub every-length : (xs : List A) (ys : List B) → every f xs ≡ Some ys → length xs ≡ length ys
  every-length [] ys e = let none : [] ≡ ys = cc in ap length none
  every-length (x ∷ xs) ys e =
      let p = every-cons x xs ys e in
      ap suc (every-length xs p.1 p.3) ∙ ap length (sym p.4)

-- where there is something to make it of
pub mapped-some : {A B : Type 0} (f : A → B) (o : Option A) (y : B) → option_map f o ≡ Some y → IsSome o
mapped-some f None y e = absurd (none-some y e)
mapped-some f (Some x) y e = search rules
