-- The first place at which a test passes, in a list with one element more.
use Rattle.std.proofs.Common.{◌≡◌, ℕ, suc, ◌+◌, Bool, true, false, not, List, [], ◌∷◌, ◌++◌, length, refl, ap, sym, ◌∙◌, cond, arith}
use Rattle.std.specs.Prelude.{Option, Some, None, option_map, nat_lt, position, if◌then◌else◌}
use Rattle.std.specs.List.{position_or_len}
use Rattle.std.specs.Option.{option_or}
use Rattle.std.proofs.lemmas.Bool.Decides.{nat_tests}

lt-suc : (n m : ℕ) → nat_lt (suc n) (suc m) ≡ nat_lt n m
lt-suc n m = grind (arith, nat_tests)

one_more : (n : ℕ) → 1 + n ≡ suc n
one_more n = omega arith

lt-zero : (n : ℕ) → nat_lt 0 (suc n) ≡ true
lt-zero n = grind (arith, nat_tests)

module _ {X : Type 0} (p : X → Bool) where
  pub position-cons : (x : X) (xs : List X) → position p (x ∷ xs) ≡ cond (p x) (Some 0) (option_map suc (position p xs))
  position-cons x xs = by (p x)
    where
      less : (b : Bool) → cond b (Some (suc (position_or_len p xs))) None ≡ option_map suc (cond b (Some (position_or_len p xs)) None)
      less true = refl
      less false = refl

      by : (b : Bool) → cond (nat_lt (cond (not b) (1 + position_or_len p xs) 0) (suc (length xs))) (Some (cond (not b) (1 + position_or_len p xs) 0)) None ≡ cond b (Some 0) (option_map suc (position p xs))
      by true = ap (λ b. cond b (Some 0) None) (lt-zero (length xs))
      by false = (λ i. cond (nat_lt (one_more (position_or_len p xs) i) (suc (length xs))) (Some (one_more (position_or_len p xs) i)) None) ∙ ap (λ b. cond b (Some (suc (position_or_len p xs))) None) (lt-suc (position_or_len p xs) (length xs)) ∙ less (nat_lt (position_or_len p xs) (length xs))

  pub position-push : (xs : List X) (y : X) → position p (xs ++ y ∷ []) ≡ option_or (position p xs) (if p y then Some (length xs) else None)
  position-push [] y = position-cons y []
  position-push (x ∷ xs) y =
      position-cons x (xs ++ y ∷ []) ∙ ap (λ o. cond (p x) (Some 0) (option_map suc o)) (position-push xs y) ∙ by (p x) (position p xs) (p y)
      ∙ ap (λ o. option_or o (if p y then Some (suc (length xs)) else None)) (sym (position-cons x xs))
    where
      by : (b : Bool) (o : Option ℕ) (c : Bool) → cond b (Some 0) (option_map suc (option_or o (if c then Some (length xs) else None))) ≡ option_or (cond b (Some 0) (option_map suc o)) (if c then Some (suc (length xs)) else None)
      by true o c = refl
      by false (Some n) c = refl
      by false None true = refl
      by false None false = refl
