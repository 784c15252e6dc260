-- Values of digits.
use Rattle.std.specs.Prelude.{◌≡◌, ℕ, suc, ◌+◌, ◌*◌, ◌^◌, ◌<◌, ◌≤◌, true, false, nat_lt, List, [], ◌∷◌, ◌++◌, length, drop, slice_index, Option, Some, None, option_and_then, option_map, if◌then◌else◌, refl}
use Rattle.std.proofs.Common.{arith, rules, tests, inl, inr, pow-suc}
use Rattle.std.proofs.Math.Nat.{pow-zero}
use Rattle.std.specs.Char.{digit_value}
use Rattle.std.specs.Str.Parse.{AllDigits, digits_value_after}
use Rattle.std.proofs.lemmas.Bool.{cases_lt}
use Rattle.std.proofs.lemmas.Bool.Decides.{nat_tests}
use Rattle.std.proofs.lemmas.List.{drop_more, drop_all}
use Rattle.std.proofs.lemmas.Nat.{mul-le}
use Rattle.eo_lit.specs.Literals.{digit, digit_below, with_digits, digits_value}
use Rattle.eo_lit.specs.Reading.{in_128_bits, next_value}

-- a digit in a base of at most 16, as `parse` reads it
digit_below_parsed : (base b : ℕ) → base ≤ 16 → digit_value b < base → digit_below base b ≡ Some (digit_value b)
digit_below_parsed base b small below = grind (arith, nat_tests)

pub with_digits_parsed : (base n : ℕ) (ds : List ℕ) → base ≤ 16 → AllDigits base ds → with_digits base n ds ≡ Some (digits_value_after base n ds)
with_digits_parsed base n [] small all = refl
with_digits_parsed base n (b ∷ ds) small all =
    let first = digit_below_parsed base b small all.0 in
    rw first (with_digits_parsed base (n * base + digit_value b) ds small all.1)

-- digits and then others
and_then_again : {A B C : Type 0} (o : Option A) (f : A → Option B) (g : B → Option C) (h : A → Option C) → ((a : A) → h a ≡ option_and_then g (f a))
    → option_and_then h o ≡ option_and_then g (option_and_then f o)
and_then_again None f g h same = refl
and_then_again (Some a) f g h same = same a

pub with_digits_append : (base n : ℕ) (xs ys : List ℕ) → with_digits base n (xs ++ ys) ≡ option_and_then (λ m. with_digits base m ys) (with_digits base n xs)
with_digits_append base n [] ys = refl
with_digits_append base n (b ∷ xs) ys =
    and_then_again (digit_below base b) (λ d. with_digits base (n * base + d) xs) (λ m. with_digits base m ys)
    (λ d. with_digits base (n * base + d) (xs ++ ys)) (λ d. with_digits_append base (n * base + d) xs ys)

pub digits_value_all : (base : ℕ) (ds : List ℕ) → 0 < length ds → digits_value base ds ≡ with_digits base 0 ds
digits_value_all base [] some = absurd (omega arith)
digits_value_all base (b ∷ ds) some = refl

-- ---- the loop over digits

-- a number that is too large stays so
stays_none : {A : Type 0} (o : Option A) (f : A → Option ℕ) → ((a : A) → in_128_bits (f a) ≡ None) → in_128_bits (option_and_then f o) ≡ None
stays_none None f none = refl
stays_none (Some a) f none = none a

too_large : (base n : ℕ) (ds : List ℕ) → 1 ≤ base → 2 ^ 128 ≤ n → in_128_bits (with_digits base n ds) ≡ None
too_large base n [] some large =
    let test : nat_lt n (2 ^ 128) ≡ false = search (rules, tests) in
    rw test refl
too_large base n (b ∷ ds) some large =
    stays_none (digit_below base b) (λ d. with_digits base (n * base + d) ds)
    (λ d. too_large base (n * base + d) ds some (omega (arith, mul-le n 1 n base (omega arith) some)))

-- what comes of one digit more
one_more : (base n : ℕ) (ds : List ℕ) (o : Option ℕ) (r : Option ℕ) → 1 ≤ base → r ≡ in_128_bits (option_map (λ d. n * base + d) o)
    → in_128_bits (option_and_then (λ d. with_digits base (n * base + d) ds) o) ≡ in_128_bits (option_and_then (λ m. with_digits base m ds) r)
one_more base n ds None r some is = rw is refl
one_more base n ds (Some d) r some is =
    elim (cases_lt (n * base + d) (2 ^ 128)) [
      | inl small ↦
          let test : nat_lt (n * base + d) (2 ^ 128) ≡ true = search (rules, tests) in
          let value = rw test at is in
          rw value refl
      | inr large ↦
          let test : nat_lt (n * base + d) (2 ^ 128) ≡ false = search (rules, tests) in
          let value = rw test at is in
          rw value (too_large base (n * base + d) ds some large)
    ]

pub one_digit_more : (base n : ℕ) (ds : List ℕ) (i : ℕ) (r : Option ℕ) → 1 ≤ base → i < length ds → r ≡ next_value base n (slice_index ds i)
    → in_128_bits (with_digits base n (drop i ds)) ≡ in_128_bits (option_and_then (λ m. with_digits base m (drop (i + 1) ds)) r)
one_digit_more base n ds i r some inside is =
    let split = drop_more ds i 0 inside in
    rw split (one_more base n (drop (i + 1) ds) (digit_below base (slice_index ds i)) r some is)

pub no_digit_more : (base n : ℕ) (ds : List ℕ) (i : ℕ) → length ds ≤ i → n < 2 ^ 128 → in_128_bits (with_digits base n (drop i ds)) ≡ Some n
no_digit_more base n ds i past small =
    let none = drop_all i ds past in
    let test : nat_lt n (2 ^ 128) ≡ true = search (rules, tests) in
    rw (none, test) refl

-- ---- how large a number is

digit_below_small : (base b d : ℕ) → digit_below base b ≡ Some d → d < base
digit_below_small base b d is = from_digit (digit b) is
  where
    from_digit : (o : Option ℕ) → option_and_then (λ x. if nat_lt x base then Some x else None) o ≡ Some d → d < base
    from_digit None e = absurd (cc)
    from_digit (Some x) e =
        elim (cases_lt x base) [
          | inl small ↦
              let test : nat_lt x base ≡ true = search (rules, tests) in
              let same : Some x ≡ Some d = rw test at e in
              let value : x ≡ d = cc in
              omega arith
          | inr large ↦
              let test : nat_lt x base ≡ false = search (rules, tests) in
              let no : None ≡ Some d = rw test at e in
              absurd (cc)
        ]

bound_step : (base n d p q v : ℕ) → d < base → q ≡ p * base → v < (n * base + d + 1) * p → v < (n + 1) * q
bound_step base n d p q v small is below =
    let factor : n * base + d + 1 ≤ (n + 1) * base = omega arith in
    let product = mul-le (n * base + d + 1) p ((n + 1) * base) p factor (omega arith) in
    let same : (n + 1) * base * p ≡ (n + 1) * (p * base) = omega arith in
    rw is (omega arith)

below_by_digit : (base n : ℕ) (ds : List ℕ) (v : ℕ) (o : Option ℕ) → ((d : ℕ) → o ≡ Some d → d < base)
    → ((d : ℕ) → with_digits base (n * base + d) ds ≡ Some v → v < (n * base + d + 1) * base ^ length ds)
    → option_and_then (λ d. with_digits base (n * base + d) ds) o ≡ Some v → v < (n + 1) * base ^ suc (length ds)
below_by_digit base n ds v None small rest is = absurd (cc)
below_by_digit base n ds v (Some d) small rest is =
    bound_step base n d (base ^ length ds) (base ^ suc (length ds)) v (small d refl) (pow-suc base (length ds)) (rest d is)

-- each digit makes the bound larger by the base
pub with_digits_below : (base n : ℕ) (ds : List ℕ) (v : ℕ) → with_digits base n ds ≡ Some v → v < (n + 1) * base ^ length ds
with_digits_below base n [] v is =
    let same : n ≡ v = cc in
    let one : base ^ 0 ≡ 1 = pow-zero base in
    rw one (omega arith)
with_digits_below base n (b ∷ ds) v is =
    below_by_digit base n ds v (digit_below base b) (λ d. digit_below_small base b d) (λ d. with_digits_below base (n * base + d) ds v) is
