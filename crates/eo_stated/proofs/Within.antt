-- What a number names in a list.
use Rattle.std.proofs.Common.{◌≡◌, refl, ℕ, zero, suc, ◌<◌, ◌≤◌, true, false, List, [], ◌∷◌, length, ap, ◌∙◌, arith, inl, inr, nat_lt}
use Rattle.std.specs.Prelude.{is_some, slice_get, nat_le}
use Rattle.std.proofs.lemmas.Bool.{cases_lt}
use Rattle.std.proofs.lemmas.Bool.Decides.{nat_tests}
use Rattle.std.proofs.lemmas.Option.{slice_get_past}

below : (n m : ℕ) → n < m → true ≡ nat_lt n m
below n m h = grind (arith, nat_tests)

past : (n m : ℕ) → m ≤ n → false ≡ nat_lt n m
past n m h = grind (arith, nat_tests)

there : {X : Type 0} (xs : List X) (n : ℕ) → n < length xs → is_some (slice_get xs n) ≡ true
there [] n h = absurd (omega (arith, h))
there (x ∷ xs) zero h = refl
there (x ∷ xs) (suc n) h = there xs n (omega (arith, h))

-- a number names something exactly where it is below the length
pub is_some_at : {X : Type 0} (xs : List X) (n : ℕ) → is_some (slice_get xs n) ≡ nat_lt n (length xs)
is_some_at xs n =
    elim (cases_lt n (length xs)) [
      | inl h ↦ there xs n h ∙ below n (length xs) h
      | inr h ↦ ap is_some (slice_get_past xs n h) ∙ past n (length xs) h
    ]

-- at most so many, and less than one more
pub at_most : (n m : ℕ) → nat_le n m ≡ nat_lt n (suc m)
at_most n m =
    elim (cases_lt n (suc m)) [
      | inl h ↦ (let l : n ≤ m = omega (arith, h) in within n m l ∙ below n (suc m) h)
      | inr h ↦ (let l : m < n = omega (arith, h) in beyond n m l ∙ past n (suc m) h)
    ]
  where
    within : (n m : ℕ) → n ≤ m → nat_le n m ≡ true
    within n m h = grind (arith, nat_tests)

    beyond : (n m : ℕ) → m < n → nat_le n m ≡ false
    beyond n m h = grind (arith, nat_tests)
