-- Parts of lists, and places in strings.
use Rattle.std.specs.Prelude.{◌≡◌, ℕ, suc, ◌+◌, ◌-◌, ◌%◌, ◌/◌, ◌^◌, ◌<◌, ◌≤◌, ℤ, pos, negsuc, min, true, false, nat_eq, nat_le, nat_lt, List, [], ◌∷◌, length, take, drop, slice_range, Option, Some, None, option_map, refl}
use Rattle.std.specs.List.{starts_with}
use Rattle.std.proofs.Common.{sym, ◌∙◌, ap, arith, inl, inr, rules, tests}
use Rattle.std.proofs.lemmas.List.{drop_all, take_all, drop_more, length-drop}
use Rattle.std.proofs.lemmas.Bool.{cases_lt}
use Rattle.std.proofs.Math.Seq.{take-nil}
use Rattle.eo_ops.specs.Operators.{BitString, bits_of, bit_string, part, place_of}
use Rattle.eo_ops.specs.Places.{place_range}
use Rattle.eo_ops.proofs.Numbers.{length-bits_of}
use Rattle.eo_ops.proofs.Bits.{take-bits, drop-bits, bit_string_bits}

-- a part is what is between its places
pub part_range : {X : Type 0} (xs : List X) (i j : ℤ) → part xs i j ≡ slice_range xs (place_range (length xs) i j).0 (place_range (length xs) i j).1
part_range xs (pos i) (pos j) =
    elim (cases_lt i (length xs)) [
      | inl starts ↦
          let starts_test : nat_le (length xs) i ≡ false = search (rules, tests) in
          elim (cases_lt j i) [
            | inl ends ↦
                let ends_test : nat_lt j i ≡ true = search (rules, tests) in
                let none : suc j - i ≡ 0 = omega arith in
                rw (starts_test, ends_test, none) refl
            | inr goes_on ↦
                let ends_test : nat_lt j i ≡ false = search (rules, tests) in
                rw (starts_test, ends_test)
                (elim (cases_lt j (length xs)) [
                  | inl inside ↦
                      let least : min j (length xs - 1) ≡ j = omega arith in
                      rw least refl
                  | inr beyond ↦
                      let least : min j (length xs - 1) ≡ length xs - 1 = omega arith in
                      let long : length (drop i xs) ≤ suc j - i = omega (arith, length-drop i xs) in
                      let exact : length (drop i xs) ≤ suc (length xs - 1) - i = omega (arith, length-drop i xs) in
                      rw least (take_all (suc j - i) (drop i xs) long ∙ sym (take_all (suc (length xs - 1) - i) (drop i xs) exact))
                ])
          ]
      | inr beyond ↦
          let starts_test : nat_le (length xs) i ≡ true = search (rules, tests) in
          rw (starts_test, drop_all i xs beyond) (take-nil (suc j - i))
    ]
part_range xs (pos i) (negsuc j) = refl
part_range xs (negsuc i) j = refl

-- the items between two places
pub part_between : {X : Type 0} (xs : List X) (i j : ℤ) (start end : ℕ) → (start, end) ≡ place_range (length xs) i j → part xs i j ≡ take (end - start) (drop start xs)
part_between {X} xs i j start end is = part_range xs i j ∙ ap (λ (p : ℕ × ℕ). slice_range xs p.0 p.1) (sym is)

-- the bits between two places
pub part_bits : (w a : ℕ) (i j : ℤ) (start end : ℕ) → (start, end) ≡ place_range w i j → start ≤ end → end ≤ w
    → bit_string (part (bits_of w a) i j) ≡ BitString (end - start) (a / 2 ^ start % 2 ^ (end - start))
part_bits w a i j start end is ordered within =
    let between = part_between (bits_of w a) i j start end (is ∙ ap (λ (n : ℕ). place_range n i j) (sym (length-bits_of w a))) in
    let bits : slice_range (bits_of w a) start end ≡ bits_of (end - start) (a / 2 ^ start) =
    ap (take (end - start)) (drop-bits start w a (omega arith)) ∙ take-bits (end - start) (w - start) (a / 2 ^ start) (omega arith) in
    ap bit_string (between ∙ bits) ∙ bit_string_bits (end - start) (a / 2 ^ start)

-- the empty string is at the first place
pub place_of_empty : (t s : List ℕ) → length t ≡ 0 → place_of t s ≡ Some 0
place_of_empty [] [] h = refl
place_of_empty [] (c ∷ s) h = refl
place_of_empty (x ∷ t) s h = absurd (omega arith)

-- what is found after a place where the string is not
pub place_of_skips : (t s : List ℕ) (k : ℕ) → k < length s → starts_with nat_eq (drop k s) t ≡ false → place_of t (drop k s) ≡ option_map suc (place_of t (drop (k + 1) s))
place_of_skips t s k h e =
    let split = drop_more s k 0 h in
    rw split (let differs = rw split at e in rw differs refl)

-- from one place to the next
pub place_of_next : (t s : List ℕ) (k : ℕ) → k < length s → starts_with nat_eq (take (length s - k) (drop k s)) t ≡ false
    → option_map (λ (n : ℕ). k + n) (place_of t (drop k s)) ≡ place_of t s
    → option_map (λ (n : ℕ). k + 1 + n) (place_of t (drop (k + 1) s)) ≡ place_of t s
place_of_next t s k inside differs so_far =
    let all : take (length s - k) (drop k s) ≡ drop k s = take_all (length s - k) (drop k s) (omega (arith, length-drop k s)) in
    let skips = place_of_skips t s k inside (rw all at differs) in
    counted (place_of t (drop (k + 1) s)) ∙ rw skips at so_far
  where
    counted : (o : Option ℕ) → option_map (λ (n : ℕ). k + 1 + n) o ≡ option_map (λ (n : ℕ). k + n) (option_map suc o)
    counted None = refl
    counted (Some n) = ap Some (omega arith)
