-- Hexadecimal digits as the crate `hex` decodes them.
use Rattle.std.specs.Prelude.{◌≡◌, ℕ, zero, suc, ◌+◌, ◌-◌, ◌*◌, ◌%◌, ◌<◌, ◌≤◌, List, [], ◌∷◌, ◌++◌, length, take, drop, replicate, Option, Some, None, Result, Ok, Err, MatchResult, refl}
use Rattle.std.proofs.Common.{sym, ◌∙◌, ap, arith}
use Rattle.std.proofs.lemmas.Bool.Decides.{nat_tests}
use Rattle.hex.proofs.Pairs.{decode_sized-pairs}
use Rattle.hex.specs.Hex.{decode_sized, decode_pairs, hex_digit_value, ◌>>=◌}
use Rattle.hex.specs.declared.error.FromHexError.{FromHexError}
use Rattle.std.specs.Int.{w128, from_be_bytes}
use Rattle.eo_lit.specs.Literals.{digit_below, with_digits, digits_value}
use Rattle.eo_lit.proofs.Digits.{digits_value_all}
use Rattle.std.proofs.lemmas.List.{length-append, length-replicate, take-replicate, drop_all, length-drop, append-nil}
use borrow.Rule.Slice.PartMut.{put_mid}
use Rattle.std.specs.Result.{result_ok}

digit_below_hex : (b : ℕ) → digit_below 16 b ≡ hex_digit_value b
digit_below_hex b = grind (arith, nat_tests)

-- the number of some bytes, the highest first, after a number
abbrev pub bytes_number : ℕ → List ℕ → ℕ
bytes_number n [] = n
bytes_number n (b ∷ bytes) = bytes_number (n * 256 + b) bytes

-- what decoding says of the digits' value
abbrev pub IsDecoded : ℕ → List ℕ → Result (List ℕ) FromHexError → Type 0
IsDecoded n text r = MatchResult r (λ bytes. with_digits 16 n text ≡ Some (bytes_number n bytes)) (λ e. with_digits 16 n text ≡ None)

decoded_pair : (at n high low : ℕ) (rest : List ℕ) (h l : Option ℕ) → hex_digit_value high ≡ h → hex_digit_value low ≡ l
    → ((m : ℕ) → IsDecoded m rest (decode_pairs (at + 2) rest)) → IsDecoded n (high ∷ low ∷ rest) (decode_pairs at (high ∷ low ∷ rest))
unfolding decode_pairs
decoded_pair at n high low rest None l eh el others =
    let first : digit_below 16 high ≡ None = digit_below_hex high ∙ eh in
    rw (first, eh) refl
decoded_pair at n high low rest (Some x) None eh el others =
    let first : digit_below 16 high ≡ Some x = digit_below_hex high ∙ eh in
    let second : digit_below 16 low ≡ None = digit_below_hex low ∙ el in
    rw (first, second, eh, el) refl
decoded_pair at n high low rest (Some x) (Some y) eh el others =
    let first : digit_below 16 high ≡ Some x = digit_below_hex high ∙ eh in
    let second : digit_below 16 low ≡ Some y = digit_below_hex low ∙ el in
    let sum : (n * 16 + x) * 16 + y ≡ n * 256 + (x * 16 + y) = omega arith in
    rw (first, second, eh, el, sum) (decoded_rest (decode_pairs (at + 2) rest) (others (n * 256 + (x * 16 + y))))
  where
    decoded_rest : (r : Result (List ℕ) FromHexError) → IsDecoded (n * 256 + (x * 16 + y)) rest r
        → MatchResult (r >>= (λ bytes. Ok ((x * 16 + y) ∷ bytes))) (λ bytes. with_digits 16 (n * 256 + (x * 16 + y)) rest ≡ Some (bytes_number n bytes)) (λ e. with_digits 16 (n * 256 + (x * 16 + y)) rest ≡ None)
    decoded_rest (Ok bytes) h = h
    decoded_rest (Err e) h = h

pub decoded : (at n : ℕ) (text : List ℕ) → length text % 2 ≡ 0 → IsDecoded n text (decode_pairs at text)
unfolding decode_pairs
decoded at n [] even = refl
decoded at n (b ∷ []) even = absurd (omega arith)
decoded at n (high ∷ low ∷ rest) even =
    decoded_pair at n high low rest (hex_digit_value high) (hex_digit_value low) refl refl (λ m. decoded (at + 2) m rest (omega arith))

-- zeros in front do not count
pub with_zeros : (k : ℕ) (digits : List ℕ) → with_digits 16 0 (replicate k 48 ++ digits) ≡ with_digits 16 0 digits
with_zeros zero digits = refl
with_zeros (suc k) digits = with_zeros k digits

-- sixteen bytes
pub bytes_number-be : (bytes : List ℕ) → length bytes ≡ 16 → from_be_bytes w128 bytes ≡ bytes_number 0 bytes
bytes_number-be (a ∷ b ∷ c ∷ d ∷ e ∷ f ∷ g ∷ h ∷ i ∷ j ∷ k ∷ l ∷ m ∷ n ∷ o ∷ p ∷ []) len = omega arith
bytes_number-be _ len = absurd (omega arith)

-- what decoding 32 digits into 16 bytes says of the value
pub hex_value : (digits padded out : List ℕ) (r : Result (Unit {0}) FromHexError) → 0 < length digits → length digits ≤ 32 → length out ≡ 16
    → padded ≡ replicate (32 - length digits) 48 ++ digits
    → MatchResult (decode_sized padded 16) (λ bytes. (r ≡ Ok tt) × (out ≡ bytes)) (λ e. r ≡ Err e)
    → MatchResult r (λ _. digits_value 16 digits ≡ Some (from_be_bytes w128 out)) (λ _. digits_value 16 digits ≡ None)
hex_value digits padded out r some few room is gives =
    let long : length padded ≡ 32 = ap length is ∙ length-append (replicate (32 - length digits) 48) digits ∙ ap (λ n. n + length digits) (length-replicate (32 - length digits) 48) ∙ omega arith in
    let pairs = decode_sized-pairs padded 16 (omega arith) (omega arith) in
    let all = decoded 0 0 padded (omega arith) in
    let value : with_digits 16 0 padded ≡ digits_value 16 digits = ap (with_digits 16 0) is ∙ with_zeros (32 - length digits) digits ∙ sym (digits_value_all 16 digits some) in
    outcome (decode_pairs 0 padded) r (rw pairs at gives) (rw value at all)
  where
    outcome : (o : Result (List ℕ) FromHexError) (a : Result (Unit {0}) FromHexError) → MatchResult o (λ bytes. (a ≡ Ok tt) × (out ≡ bytes)) (λ e. a ≡ Err e)
        → MatchResult o (λ bytes. digits_value 16 digits ≡ Some (bytes_number 0 bytes)) (λ e. digits_value 16 digits ≡ None)
        → MatchResult a (λ _. digits_value 16 digits ≡ Some (from_be_bytes w128 out)) (λ _. digits_value 16 digits ≡ None)
    outcome (Ok bytes) a h v = rw h.0 (v ∙ ap (λ n. Some n) (ap (bytes_number 0) (sym h.1) ∙ sym (bytes_number-be out room)))
    outcome (Err e) a h v = rw h v

pub value_if_ok : (P Q : Type 0) (r : Result (Unit {0}) FromHexError) (u : Unit {0}) → MatchResult r (λ _. P) (λ _. Q) → result_ok r ≡ Some u → P
value_if_ok P Q (Ok v) u h is = h
value_if_ok P Q (Err e) u h is = absurd (cc)

pub none_if_err : (P Q : Type 0) (r : Result (Unit {0}) FromHexError) → MatchResult r (λ _. P) (λ _. Q) → result_ok r ≡ None → Q
none_if_err P Q (Ok v) h is = absurd (cc)
none_if_err P Q (Err e) h is = h

-- digits written over the last of 32 zeros
pub zeros_then : (zeros digits written : List ℕ) → zeros ≡ replicate 32 48 → written ≡ digits → length digits ≤ 32
    → put_mid (32 - length digits) (32 - (32 - length digits)) zeros written ≡ replicate (32 - length digits) 48 ++ digits
zeros_then zeros digits written is same few =
    let n = 32 - length digits in
    let long : length zeros ≡ 32 = ap length is ∙ length-replicate {A = ℕ} 32 48 in
    let rest : drop (32 - n) (drop n zeros) ≡ [] = drop_all (32 - n) (drop n zeros) (omega (arith, length-drop n zeros)) in
    let front : take n zeros ≡ replicate n 48 = ap (take n) is ∙ take-replicate n 32 48 (omega arith) in
    rw (rest, front, same, append-nil) refl
