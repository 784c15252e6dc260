-- Spellings read back.
use Rattle.std.specs.Prelude.{◌≡◌, ℕ, zero, suc, ◌+◌, ◌-◌, ◌*◌, ◌/◌, ◌%◌, ◌^◌, ◌<◌, ◌≤◌, ℤ, pos, negsuc, FitsSigned, true, false, ◌==◌, nat_lt, nat_le, List, [], ◌∷◌, ◌++◌, length, slice_index, codes, Some, option_and_then, refl}
use Rattle.std.specs.Fmt.{decimal, signed_decimal}
use Rattle.std.specs.Int.{w128}
use Rattle.std.proofs.Common.{◌∙◌, ap, arith, rules, tests}
use Rattle.std.proofs.lemmas.Fmt.{decimal_is_IsNumeral_wide, decimal_digit, decimal_by_steps_wide}
use Rattle.std.proofs.lemmas.List.{length-append, get_or_append_left}
use Rattle.std.proofs.lemmas.Nat.{shr-shr, shr_below, mod-pow-add}
use Rattle.std.proofs.Math.Pow.{pow_mono}
use Rattle.std.proofs.Math.Nat.{mod-eq_of_lt}
use Rattle.eo_lit.specs.Literals.{Number, BitString, literal_value, has_leading_zero, numeral, digits_value, with_digits, digit_below, positive}
use Rattle.eo_lit.specs.Spelling.{bits}
use Rattle.eo_lit.proofs.Digits.{with_digits_parsed, with_digits_append, digits_value_all}

-- a place beyond the last holds no digit
pub no_digit_beyond : (value place : ℕ) → value < 2 ^ 128 → 128 ≤ place → value / 2 ^ place ≡ 0
no_digit_beyond value place small beyond =
    let most = pow_mono beyond in
    let whole : 0 + place ≡ place = omega arith in
    let none = shr_below value 0 place (rw whole (omega arith)) in
    omega arith

-- ---- numbers

-- how the digits of a number begin
record Begins (n : ℕ) (ds : List ℕ) : Type 0 where
  some : 0 < length ds
  digit : 48 ≤ slice_index ds 0
  no_zero : 0 < n → 48 < slice_index ds 0

decimal_begins : (n : ℕ) → n < 10 ^ 64 → Begins n (decimal n)
decimal_begins n small =
    decimal_by_steps_wide Begins
    (λ m h. record { some = omega arith; digit = omega arith; no_zero = λ p. omega arith })
    (λ m ds h before.
    let same : slice_index (ds ++ (48 + m % 10) ∷ []) 0 ≡ slice_index ds 0 = get_or_append_left ds ((48 + m % 10) ∷ []) 0 0 before.some in
    let high = before.no_zero (omega arith) in
    record { some = omega (arith, length-append ds ((48 + m % 10) ∷ [])); digit = rw same before.digit; no_zero = λ p. rw same high })
    n small

no_leading_zero : (ds : List ℕ) → 48 < slice_index ds 0 → has_leading_zero ds ≡ false
no_leading_zero [] h = refl
no_leading_zero (b ∷ []) h = refl
no_leading_zero (b ∷ c ∷ ds) h = search (rules, tests)

numeral-digits : (n : ℕ) (ds : List ℕ) → 0 < length ds → has_leading_zero ds ≡ false → with_digits 10 0 ds ≡ Some n → numeral ds ≡ Some n
numeral-digits n ds some leading value = rw leading (digits_value_all 10 ds some ∙ value)

numeral-decimal : (n : ℕ) → n < 10 ^ 64 → numeral (decimal n) ≡ Some n
numeral-decimal zero small = rw (decimal_digit 0 (omega arith)) refl
numeral-decimal (suc n) small =
    let ds = decimal (suc n) in
    let begins = decimal_begins (suc n) small in
    let read = decimal_is_IsNumeral_wide (suc n) small in
    let value : with_digits 10 0 ds ≡ Some (suc n) = with_digits_parsed 10 0 ds (omega arith) read.0.1 ∙ ap (λ (m : ℕ). Some m) read.1 in
    numeral-digits (suc n) ds begins.some (no_leading_zero ds (begins.no_zero (omega arith))) value

-- a word that begins with a digit
literal_value-digits : (ds : List ℕ) → 48 ≤ slice_index ds 0 → literal_value ds ≡ option_and_then positive (numeral ds)
unfolding literal_value
literal_value-digits [] h = absurd (omega arith)
literal_value-digits (b ∷ ds) h =
    let no_hash : (b == 35) ≡ false = search (rules, tests) in
    let no_minus : (b == 45) ≡ false = search (rules, tests) in
    rw (no_hash, no_minus) refl

pub number_reads_back : (z : ℤ) → FitsSigned w128 z → literal_value (signed_decimal z) ≡ Some (Number z)
unfolding literal_value
number_reads_back (pos n) fits =
    let small : n < 2 ^ 127 = omega arith in
    let test : nat_lt n (2 ^ 127) ≡ true = search (rules, tests) in
    literal_value-digits (decimal n) (decimal_begins n (omega arith)).digit ∙ rw (numeral-decimal n (omega arith), test) refl
number_reads_back (negsuc n) fits =
    let small : suc n ≤ 2 ^ 127 = omega arith in
    let some : nat_le 1 (suc n) ≡ true = search (rules, tests) in
    let test : nat_le (suc n) (2 ^ 127) ≡ true = search (rules, tests) in
    rw (numeral-decimal (suc n) (omega arith), some, test) refl

-- ---- bit strings

length-bits : (w v : ℕ) → length (bits w v) ≡ w
length-bits zero v = refl
length-bits (suc w) v = length-append (bits w (v / 2)) ((48 + v % 2) ∷ []) ∙ rw (length-bits w (v / 2)) (omega arith)

binary_digit_below : (d : ℕ) → d < 2 → digit_below 2 (48 + d) ≡ Some d
binary_digit_below zero h = refl
binary_digit_below (suc zero) h = refl
binary_digit_below (suc (suc d)) h = absurd (omega arith)

with_digits-bits : (w v : ℕ) → with_digits 2 0 (bits w v) ≡ Some (v % 2 ^ w)
with_digits-bits zero v = ap (λ (m : ℕ). Some m) (omega arith)
with_digits-bits (suc w) v =
    let more : w + 1 ≡ suc w = omega arith in
    let whole = rw more at (mod-pow-add v w 1) in
    let digit = binary_digit_below (v % 2) (omega arith) in
    with_digits_append 2 0 (bits w (v / 2)) ((48 + v % 2) ∷ [])
    ∙ rw (with_digits-bits w (v / 2), digit) (ap (λ (m : ℕ). Some m) (omega (arith, whole)))

pub bits_read_back : (w v : ℕ) → 1 ≤ w → w ≤ 128 → v < 2 ^ w → literal_value (codes "#b" ++ bits w v) ≡ Some (BitString w v)
unfolding literal_value
bits_read_back w v some few fits =
    let long = length-bits w v in
    let one : 1 * w ≡ w = omega arith in
    let test : nat_le w 128 ≡ true = search (rules, tests) in
    let value : digits_value 2 (bits w v) ≡ Some v = digits_value_all 2 (bits w v) (omega arith) ∙ with_digits-bits w v ∙ ap (λ (m : ℕ). Some m) (mod-eq_of_lt fits) in
    rw (long, one, test, value) refl

-- one digit more is written
pub bits-next : (w k v : ℕ) → k < w → bits (k + 1) (v / 2 ^ (w - (k + 1))) ≡ bits k (v / 2 ^ (w - k)) ++ (48 + v / 2 ^ (w - k - 1) % 2) ∷ []
bits-next w k v h =
    let more : k + 1 ≡ suc k = omega arith in
    let place : w - suc k ≡ w - k - 1 = omega arith in
    let high : w - k - 1 + 1 ≡ w - k = omega arith in
    let halved : v / 2 ^ (w - k - 1) / 2 ≡ v / 2 ^ (w - k) = rw high at (shr-shr v (w - k - 1) 1) in
    rw (more, place) (ap (λ (m : ℕ). bits k m ++ (48 + v / 2 ^ (w - k - 1) % 2) ∷ []) halved)
