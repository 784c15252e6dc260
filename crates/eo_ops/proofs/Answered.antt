-- Answers that are bit strings.
use Rattle.std.specs.Prelude.{◌≡◌, ℕ, ◌+◌, ◌*◌, ◌%◌, ◌^◌, ◌<◌, ◌≤◌, true, false, nat_eq, nat_le, List, bit_or, ℤ, pos, negsuc, Option, Some, None, unwrap_or, MatchOption, Bool, FitsSigned, Result, Ok, Err, IfOk, MatchResult, refl}
use Rattle.std.proofs.Common.{◌∙◌, arith, rules, tests, inl, inr}
use Rattle.std.proofs.lemmas.Nat.{pow_pos, mod_below, shl_whole, or_shifted, or_disjoint}
use Rattle.std.proofs.lemmas.Bool.{cases_lt, lt-ltb, ltb-true}
use Rattle.std.specs.Int.{w128, cast_unsigned}
use Rattle.std.specs.Option.{SomeIff}
use Rattle.std.specs.declared.alloc.AllocError.{AllocError}
use Rattle.eo_ops.proofs.Bits.{below_zero_bits}
use Rattle.eo_ops.specs.declared.OpResult.{OpResult}
use Rattle.eo_ops.specs.declared.OpResult.TheVariants.{Value, NumberRange, Memory}
use Rattle.eo_ops.specs.declared.Lit.TheVariants.{Num, Bits, Str}
use Rattle.eo_ops.specs.Operators.{Literal, BitString, Text, OpAnswer, Gives, is_in_range, number, if_same_width, in_width}
use Rattle.eo_ops.specs.OpResult.{Answers}

-- a bit string that is the last bits of a value
pub answered_bits : (r : OpResult) (w v : ℕ) (answer : OpAnswer Literal) → r ≡ Value (Bits w (v % 2 ^ w)) → w ≤ 128
    → answer ≡ Gives (BitString w (v % 2 ^ w)) → Answers r answer
answered_bits r w v answer is fits gives = rw is (gives, (fits, mod_below v (2 ^ w) (pow_pos w)))

nat_eq-same : (w : ℕ) → nat_eq w w ≡ true
nat_eq-same w = search (rules, tests)

-- two bit strings of one width
pub of_same_width : (w : ℕ) (answer : OpAnswer Literal) → if_same_width w w answer ≡ answer
of_same_width w answer = let same = nat_eq-same w in rw same refl

-- the last bits of a number, by those of its 128 bits
pub in_width_of : (width n : ℤ) → FitsSigned w128 n → in_width width (pos (cast_unsigned w128 n)) ≡ in_width width n
in_width_of (negsuc width) n fits = refl
in_width_of (pos width) (pos n) fits = refl
in_width_of (pos width) (negsuc n) fits =
    elim (cases_lt 128 width) [
      | inl wide ↦
          let test : nat_le width 128 ≡ false = search (rules, tests) in
          rw test refl
      | inr narrow ↦
          let last = below_zero_bits width n narrow (omega arith) in
          rw last refl
    ]

-- a high part before a low part
pub shifted_up : (shifted : Option ℕ) (w a x b : ℕ) → a < 2 ^ w → b < 2 ^ x → w + x ≤ 128 → SomeIff shifted (x < 128) (a * 2 ^ x % 2 ^ 128)
    → bit_or (unwrap_or shifted 0) b ≡ a * 2 ^ x + b
shifted_up None w a x b high low narrow is =
    let no_high : w ≡ 0 = omega arith in
    let below = rw no_high at high in
    let none : a ≡ 0 = omega arith in
    let nothing : 0 * 2 ^ x + b ≡ 0 + b = omega arith in
    rw (none, nothing) (or_disjoint 0 b refl)
shifted_up (Some s) w a x b high low narrow is =
    let whole : s ≡ a * 2 ^ x = is.1 ∙ shl_whole a w x 128 high narrow in
    rw whole (or_shifted a x b low)

-- a string, where there was memory for it
pub answered_text : (r : OpResult) (made : Result (List ℕ) AllocError) (t : List ℕ) (answer : OpAnswer Literal)
    → MatchResult made (λ x. r ≡ Value (Str x)) (λ e. r ≡ Memory e) → IfOk made (λ x. x ≡ t) → answer ≡ Gives (Text t) → Answers r answer
answered_text r (Ok x) t answer is made gives = rw (is, made) (gives, tt)
answered_text r (Err e) t answer is made gives = rw (is, gives) refl

-- a number, where it is in range
fits_range : (z : ℤ) → FitsSigned w128 z → is_in_range z ≡ true
fits_range (pos n) fits = lt-ltb _ _ fits.sfits
fits_range (negsuc n) fits = lt-ltb _ _ fits.sfits

beyond_range : (z : ℤ) → (FitsSigned w128 z → ⊥) → is_in_range z ≡ false
beyond_range z beyond = by z (is_in_range z) refl beyond
  where
    by : (z : ℤ) (b : Bool) → is_in_range z ≡ b → (FitsSigned w128 z → ⊥) → b ≡ false
    by z false e beyond = refl
    by (pos n) true e beyond = absurd (beyond (record { sfits = ltb-true _ _ e }))
    by (negsuc n) true e beyond = absurd (beyond (record { sfits = ltb-true _ _ e }))

pub answered_number : (r : OpResult) (o : Option ℤ) (z : ℤ) → MatchOption o (r ≡ NumberRange) (λ y. r ≡ Value (Num y)) → SomeIff o (FitsSigned w128 z) z → Answers r (number z)
answered_number r (Some y) z is fits =
    let within = fits_range z fits.0 in
    rw (is, fits.1, within) (refl, tt)
answered_number r None z is fits =
    let beyond = beyond_range z fits in
    rw (is, beyond) refl
