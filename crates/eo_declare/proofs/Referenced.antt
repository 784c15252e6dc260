-- Whether one of a list, gone over by place, passes a test.
use Rattle.std.proofs.Common.{◌≡◌, ℕ, zero, suc, ◌+◌, ◌≤◌, Bool, false, ◌||◌, List, [], ◌∷◌, drop, length, slice_get, Some, refl, ap, ◌∙◌, arith}
use Rattle.std.specs.List.{list_any}
use Rattle.std.proofs.lemmas.Option.{none-some, same_Some}

module _ {X : Type 0} (p : X → Bool) where
  any_next : (xs : List X) (n : ℕ) (x : X) → slice_get xs n ≡ Some x → list_any p (drop n xs) ≡ (p x || list_any p (drop (suc n) xs))
  any_next [] n x e = absurd (none-some x e)
  any_next (y ∷ ys) zero x e = ap (λ z. p z || list_any p ys) (same_Some y x e)
  any_next (y ∷ ys) (suc n) x e = any_next ys n x e

  pub any_at : (xs : List X) (n : ℕ) (x : X) → slice_get xs n ≡ Some x → list_any p (drop n xs) ≡ (p x || list_any p (drop (n + 1) xs))
  any_at xs n x e = let up : suc n ≡ n + 1 = omega arith in any_next xs n x e ∙ ap (λ k. p x || list_any p (drop k xs)) up

  pub any_past : (xs : List X) (n : ℕ) → length xs ≤ n → list_any p (drop n xs) ≡ false
  any_past [] zero l = refl
  any_past [] (suc n) l = refl
  any_past (x ∷ xs) zero l = absurd (omega (arith, l))
  any_past (x ∷ xs) (suc n) l = any_past xs n (omega (arith, l))
