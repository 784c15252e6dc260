-- Sets of parameters as numbers.
use Rattle.std.proofs.Common.{◌≡◌, ℕ, zero, suc, ◌+◌, ◌-◌, ◌*◌, ◌/◌, ◌%◌, ◌^◌, ◌<◌, ◌≤◌, Bool, true, false, ◌||◌, nat_eq, bit_and, bit_or, min, max, refl, sym, ap, ◌∙◌, inl, inr, w64, arith}
use Rattle.std.proofs.lemmas.Nat.{leading_length}
use Rattle.std.specs.Int.Count.{count_leading_zeros}
use Rattle.std.proofs.lemmas.Bool.{cases_lt, or_cases, or_left, or_right, eqb-true, eq-eqb}
use Rattle.std.proofs.lemmas.Nat.Bits.{bit_at-zero, bit_at-lt, bit_at_and, bit_at_or, bit_at_above, bit_at_set_same, bit_at_set_other, shr_and_one, same_from_bits}
use Rattle.std.specs.Int.{bit_at}
use Rattle.eo_base.proofs.Tests.{both, join, clash}
use Rattle.eo_term.specs.ParamSet.{has}
use Rattle.eo_term.specs.Tree.{Tree, Trees, Con, Num, Bits, Str, Par, Var, App, Arr, Qar, Op, NoTree, More, occurs, occurs_in_all, uses_only, all_use_only}

pub has_nothing : (i : ℕ) → has 0 i ≡ false
unfolding has
has_nothing i = ap (λ (b : ℕ). nat_eq b 1) (bit_at-zero i)

pub has_bit : (set i : ℕ) → nat_eq (bit_and (set / 2 ^ i) 1) 1 ≡ has set i
unfolding has
has_bit set i = ap (λ (b : ℕ). nat_eq b 1) (shr_and_one set i)

-- what is in a set is below as many places as its leading zeros leave
pub has_below : (set i : ℕ) → set < 2 ^ 64 → has set i ≡ true → i < 64 - count_leading_zeros 64 set
unfolding has
has_below set i h e = at (leading_length 64 set h)
  where
    at : (m : ℕ) × (count_leading_zeros 64 set + m ≡ 64) × (set < 2 ^ m) × (2 ^ m ≤ 2 * set + 1) → i < 64 - count_leading_zeros 64 set
    at l = elim (cases_lt i l.0) [
      | inl less ↦ omega (arith, l.1)
      | inr more ↦ clash (sym (ap (λ (b : ℕ). nat_eq b 1) (bit_at_above set l.0 i l.2 more)) ∙ e)
    ]

pub has_above : (set i : ℕ) → set < 2 ^ 64 → 64 ≤ i → has set i ≡ false
unfolding has
has_above set i h l = ap (λ (b : ℕ). nat_eq b 1) (bit_at_above set 64 i h l)

pub has_one : (k i : ℕ) → k < 64 → has (1 * 2 ^ k % 18446744073709551616) i ≡ nat_eq i k
unfolding has
has_one k i h = by_test (nat_eq i k) refl
  where
    by_test : (b : Bool) → nat_eq i k ≡ b → nat_eq (bit_at (1 * 2 ^ k % 18446744073709551616) i) 1 ≡ b
    by_test true e = let same : i ≡ k = eqb-true i k e in rw same (ap (λ (b : ℕ). nat_eq b 1) (bit_at_set_same w64 0 k h))
    by_test false e =
        ap (λ (b : ℕ). nat_eq b 1) (bit_at_set_other w64 0 k h i (λ same. clash (sym e ∙ eq-eqb i k same)) ∙ bit_at-zero i)

greater : (x y : ℕ) → x < 2 → y < 2 → nat_eq (max x y) 1 ≡ (nat_eq x 1 || nat_eq y 1)
greater zero zero h k = refl
greater zero (suc zero) h k = refl
greater (suc zero) zero h k = refl
greater (suc zero) (suc zero) h k = refl
greater (suc (suc x)) y h k = absurd (omega arith)
greater x (suc (suc y)) h k = absurd (omega arith)

pub has_union : (a b i : ℕ) → has (bit_or a b) i ≡ (has a i || has b i)
unfolding has
has_union a b i = ap (λ (b : ℕ). nat_eq b 1) (bit_at_or a b i) ∙ greater (bit_at a i) (bit_at b i) (bit_at-lt a i) (bit_at-lt b i)

absorbed : (x y : ℕ) → x < 2 → y < 2 → (nat_eq x 1 ≡ true → nat_eq y 1 ≡ true) → max x y ≡ y
absorbed zero zero h k f = refl
absorbed zero (suc zero) h k f = refl
absorbed (suc zero) zero h k f = clash (f refl)
absorbed (suc zero) (suc zero) h k f = refl
absorbed (suc (suc x)) y h k f = absurd (omega arith)
absorbed x (suc (suc y)) h k f = absurd (omega arith)

pub within_has : (a b : ℕ) → nat_eq (bit_or a b) b ≡ true → (i : ℕ) → has a i ≡ true → has b i ≡ true
within_has a b e i h = ap (λ (s : ℕ). has s i) (sym (eqb-true (bit_or a b) b e)) ∙ has_union a b i ∙ or_left (has a i) (has b i) h

pub has_within : (a b : ℕ) → ((i : ℕ) → has a i ≡ true → has b i ≡ true) → nat_eq (bit_or a b) b ≡ true
unfolding has
has_within a b f =
    eq-eqb (bit_or a b) b (same_from_bits (bit_or a b) b (λ i. bit_at_or a b i ∙ absorbed (bit_at a i) (bit_at b i) (bit_at-lt a i) (bit_at-lt b i) (f i)))

lesser : (x y : ℕ) → nat_eq x 1 ≡ true → min x y ≡ 0 → nat_eq y 1 ≡ false
lesser zero y e f = clash e
lesser (suc zero) zero e f = refl
lesser (suc zero) (suc y) e f = absurd (omega arith)
lesser (suc (suc x)) y e f = let one : suc (suc x) ≡ 1 = eqb-true (suc (suc x)) 1 e in absurd (omega arith)

neither : (x y : ℕ) → x < 2 → y < 2 → (nat_eq x 1 ≡ true → nat_eq y 1 ≡ false) → min x y ≡ 0
neither zero zero h k f = refl
neither zero (suc zero) h k f = refl
neither (suc zero) zero h k f = refl
neither (suc zero) (suc zero) h k f = clash (sym (f refl))
neither (suc (suc x)) y h k f = absurd (omega arith)
neither x (suc (suc y)) h k f = absurd (omega arith)

pub apart_has : (a b : ℕ) → nat_eq (bit_and a b) 0 ≡ true → (i : ℕ) → has a i ≡ true → has b i ≡ false
unfolding has
apart_has a b e i h =
    lesser (bit_at a i) (bit_at b i) h (sym (bit_at_and a b i) ∙ ap (λ (n : ℕ). bit_at n i) (eqb-true (bit_and a b) 0 e) ∙ bit_at-zero i)

pub has_apart : (a b : ℕ) → ((i : ℕ) → has a i ≡ true → has b i ≡ false) → nat_eq (bit_and a b) 0 ≡ true
unfolding has
has_apart a b f =
    eq-eqb (bit_and a b) 0 (same_from_bits (bit_and a b) 0 (λ i. bit_at_and a b i ∙ neither (bit_at a i) (bit_at b i) (bit_at-lt a i) (bit_at-lt b i) (f i) ∙ sym (bit_at-zero i)))

-- a tree uses only the parameters that occur in it
mutual
  pub uses-known : (known : ℕ → Bool) (t : Tree) → uses_only known t ≡ true → (i : ℕ) → occurs i t ≡ true → known i ≡ true
  uses-known known (Con k) h i o = clash o
  uses-known known (Num z) h i o = clash o
  uses-known known (Bits w v) h i o = clash o
  uses-known known (Str s) h i o = clash o
  uses-known known (Par j) h i o = ap known (eqb-true i j o) ∙ h
  uses-known known (Var s t) h i o = uses-known known t h i o
  uses-known known (App f x) h i o = elim (or_cases (occurs i f) (occurs i x) o) [ inl p ↦ uses-known known f (both h).0 i p | inr p ↦ uses-known known x (both h).1 i p ]
  uses-known known (Arr a b) h i o = elim (or_cases (occurs i a) (occurs i b) o) [ inl p ↦ uses-known known a (both h).0 i p | inr p ↦ uses-known known b (both h).1 i p ]
  uses-known known (Qar j t b) h i o = elim (or_cases (occurs i t) (occurs i b) o) [ inl p ↦ uses-known known t (both h).0 i p | inr p ↦ uses-known known b (both h).1 i p ]
  uses-known known (Op c ts) h i o = all-known known ts h i o

  all-known : (known : ℕ → Bool) (ts : Trees) → all_use_only known ts ≡ true → (i : ℕ) → occurs_in_all i ts ≡ true → known i ≡ true
  all-known known NoTree h i o = clash o
  all-known known (More t ts) h i o = elim (or_cases (occurs i t) (occurs_in_all i ts) o) [ inl p ↦ uses-known known t (both h).0 i p | inr p ↦ all-known known ts (both h).1 i p ]

mutual
  pub known-uses : (known : ℕ → Bool) (t : Tree) → ((i : ℕ) → occurs i t ≡ true → known i ≡ true) → uses_only known t ≡ true
  known-uses known (Con k) f = refl
  known-uses known (Num z) f = refl
  known-uses known (Bits w v) f = refl
  known-uses known (Str s) f = refl
  known-uses known (Par j) f = f j (eq-eqb j j refl)
  known-uses known (Var s t) f = known-uses known t f
  known-uses known (App g x) f = join (known-uses known g (λ i o. f i (or_left _ _ o))) (known-uses known x (λ i o. f i (or_right _ _ o)))
  known-uses known (Arr a b) f = join (known-uses known a (λ i o. f i (or_left _ _ o))) (known-uses known b (λ i o. f i (or_right _ _ o)))
  known-uses known (Qar j t b) f = join (known-uses known t (λ i o. f i (or_left _ _ o))) (known-uses known b (λ i o. f i (or_right _ _ o)))
  known-uses known (Op c ts) f = known-all known ts f

  known-all : (known : ℕ → Bool) (ts : Trees) → ((i : ℕ) → occurs_in_all i ts ≡ true → known i ≡ true) → all_use_only known ts ≡ true
  known-all known NoTree f = refl
  known-all known (More t ts) f = join (known-uses known t (λ i o. f i (or_left _ _ o))) (known-all known ts (λ i o. f i (or_right _ _ o)))
