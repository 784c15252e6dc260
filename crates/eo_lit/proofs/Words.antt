-- Numbers and bit strings of literals.
use Rattle.std.specs.Prelude.{◌≡◌, ℕ, zero, suc, ◌+◌, ◌*◌, ◌^◌, ◌<◌, ◌≤◌, true, false, nat_lt, nat_le, List, [], ◌∷◌, length, Option, Some, None, option_and_then, refl}
use Rattle.std.proofs.Common.{◌∙◌, arith, rules, tests, inl, inr, pow-suc}
use Rattle.std.proofs.lemmas.Bool.{cases_lt}
use Rattle.std.proofs.lemmas.Nat.{pow-add}
use Rattle.std.proofs.Math.Pow.{pow_mono}
use Rattle.eo_lit.specs.Literals.{positive, negative, digits_value}
use Rattle.eo_lit.specs.Reading.{in_128_bits}
use Rattle.eo_lit.proofs.Digits.{with_digits_below}

-- a number of more than 128 bits is out of range
pub positive_in_128_bits : (o : Option ℕ) → option_and_then positive o ≡ option_and_then positive (in_128_bits o)
positive_in_128_bits None = refl
positive_in_128_bits (Some n) =
    elim (cases_lt n (2 ^ 128)) [
      | inl small ↦
          let test : nat_lt n (2 ^ 128) ≡ true = search (rules, tests) in
          rw test refl
      | inr large ↦
          let test : nat_lt n (2 ^ 128) ≡ false = search (rules, tests) in
          let beyond : nat_lt n (2 ^ 127) ≡ false = search (rules, tests) in
          rw (test, beyond) refl
    ]

pub negative_in_128_bits : (o : Option ℕ) → option_and_then negative o ≡ option_and_then negative (in_128_bits o)
negative_in_128_bits None = refl
negative_in_128_bits (Some n) =
    elim (cases_lt n (2 ^ 128)) [
      | inl small ↦
          let test : nat_lt n (2 ^ 128) ≡ true = search (rules, tests) in
          rw test refl
      | inr large ↦
          let test : nat_lt n (2 ^ 128) ≡ false = search (rules, tests) in
          let some : nat_le 1 n ≡ true = search (rules, tests) in
          let beyond : nat_le n (2 ^ 127) ≡ false = search (rules, tests) in
          rw (test, some, beyond) refl
    ]

-- ---- bit strings

digits_below : (base v : ℕ) (digits : List ℕ) → digits_value base digits ≡ Some v → (1 ≤ length digits) × (v < base ^ length digits)
digits_below base v [] is = absurd (cc)
digits_below base v (b ∷ digits) is =
    let below = with_digits_below base 0 (b ∷ digits) v is in
    (omega arith, omega arith)

pub binary_fits : (v : ℕ) (digits : List ℕ) → in_128_bits (digits_value 2 digits) ≡ Some v → (1 ≤ length digits) × (v < 2 ^ length digits)
binary_fits v digits is = digits_below 2 v digits (in_128_bits_some (digits_value 2 digits) v is)
  where
    in_128_bits_some : (o : Option ℕ) (n : ℕ) → in_128_bits o ≡ Some n → o ≡ Some n
    in_128_bits_some None n e = e
    in_128_bits_some (Some m) n e =
        elim (cases_lt m (2 ^ 128)) [
          | inl small ↦
              let test : nat_lt m (2 ^ 128) ≡ true = search (rules, tests) in
              rw test at e
          | inr large ↦
              let test : nat_lt m (2 ^ 128) ≡ false = search (rules, tests) in
              let no : None ≡ Some n = rw test at e in
              absurd (cc)
        ]

-- at most 128 binary digits make no more than 128 bits
pub binary_in_128_bits : (digits : List ℕ) → length digits ≤ 128 → in_128_bits (digits_value 2 digits) ≡ digits_value 2 digits
binary_in_128_bits digits few = fits (digits_value 2 digits) (λ v is. (digits_below 2 v digits is).1)
  where
    fits : (o : Option ℕ) → ((v : ℕ) → o ≡ Some v → v < 2 ^ length digits) → in_128_bits o ≡ o
    fits None below = refl
    fits (Some v) below =
        let small = below v refl in
        let most : 2 ^ length digits ≤ 2 ^ 128 = pow_mono few in
        let test : nat_lt v (2 ^ 128) ≡ true = search (rules, tests) in
        rw test refl

sixteen : (k : ℕ) → 16 ^ k ≡ 2 ^ (4 * k)
sixteen zero = refl
sixteen (suc k) =
    let four : 4 * suc k ≡ 4 * k + 4 = omega arith in
    let ih = sixteen k in
    pow-suc 16 k ∙ rw (four, pow-add 2 (4 * k) 4, ih) refl

pub hexadecimal_fits : (v : ℕ) (digits : List ℕ) → digits_value 16 digits ≡ Some v → (1 ≤ length digits) × (v < 2 ^ (4 * length digits))
hexadecimal_fits v digits is =
    let below = digits_below 16 v digits is in
    (below.0, rw (sixteen (length digits)) at below.1)
