-- Spellings of strings read back.
use Rattle.std.specs.Prelude.{◌≡◌, ℕ, zero, suc, ◌+◌, ◌*◌, ◌/◌, ◌%◌, ◌^◌, ◌<◌, ◌≤◌, Bool, true, false, ◌==◌, ◌&&◌, ◌||◌, nat_le, List, [], ◌∷◌, ◌++◌, length, drop, flat_map, Some, option_map, refl}
use Rattle.std.specs.Fmt.{digits, digits_onto, digit_glyph}
use Rattle.std.specs.Char.{digit_value}
use Rattle.std.specs.Str.Parse.{AllDigits, digits_value_after}
use Rattle.std.proofs.Common.{◌∙◌, ap, arith, rules, tests, inl, inr, pow-suc}
use Rattle.std.proofs.lemmas.Bool.{cases_lt, cases_eq}
use Rattle.std.proofs.lemmas.Fmt.{digits_is_IsNumeral}
use Rattle.std.proofs.lemmas.List.{append_assoc}
use Rattle.std.proofs.Math.Seq.{drop-append-add}
use Rattle.std.proofs.lemmas.List.Elements.{All-head, All-tail}
use Rattle.eo_base.specs.Characters.{AreCharacters}
use Rattle.eo_lit.specs.Literals.{spelled, digits_value, braced, escape, character_at, characters, string_value, is_plain_byte, greatest_character}
use Rattle.eo_lit.specs.Spelling.{stands_for_itself, character_spelling, string_spelling}
use Rattle.eo_lit.proofs.Digits.{with_digits_parsed, digits_value_all}
use Rattle.eo_lit.proofs.Characters.{characters-first}

-- ---- the digits of an escape

length-digits_onto : (k j n : ℕ) (after : List ℕ) → 1 ≤ j → j ≤ k → n < 16 ^ j → length (digits_onto k 16 false n after) ≤ j + length after
length-digits_onto zero j n after some few small = absurd (omega arith)
length-digits_onto (suc k) zero n after some few small = absurd (omega arith)
length-digits_onto (suc k) (suc j) n after some few small =
    elim (cases_lt n 16) [
      | inl last ↦
          let none : n / 16 ≡ 0 = omega arith in
          let test : (n / 16 == 0) ≡ true = rw none refl in
          rw test (omega arith)
      | inr more ↦
          let test : (n / 16 == 0) ≡ false = search (rules, tests) in
          let power : 16 ^ suc j ≡ 16 ^ j * 16 = pow-suc 16 j in
          let high : n / 16 < 16 ^ j = omega arith in
          let another : 1 ≤ j = more_than_one j (n / 16) high (omega arith) in
          rw test (omega (arith, length-digits_onto k j (n / 16) (digit_glyph false (n % 16) ∷ after) another (omega arith) high))
    ]
  where
    more_than_one : (i m : ℕ) → m < 16 ^ i → 1 ≤ m → 1 ≤ i
    more_than_one zero m less some' = absurd (omega arith)
    more_than_one (suc i) m less some' = omega arith

length-digits : (c : ℕ) → c ≤ greatest_character → length (digits 16 false c) ≤ 5
unfolding digits
length-digits c small = omega (arith, length-digits_onto 64 5 c [] (omega arith) (omega arith) (omega arith))

-- digits and then a `}`
braced-digits : (k : ℕ) (ds rest : List ℕ) → length ds < k → AllDigits 16 ds → braced k (ds ++ 125 ∷ rest) ≡ Some ds
braced-digits zero ds rest few all = absurd (omega arith)
braced-digits (suc k) [] rest few all = refl
braced-digits (suc k) (d ∷ ds) rest few all =
    let no_brace : (d == 125) ≡ false = no_digit d all.0 in
    rw (no_brace, braced-digits k ds rest (omega arith) all.1) refl
  where
    no_digit : (b : ℕ) → digit_value b < 16 → (b == 125) ≡ false
    no_digit b small =
        elim (cases_eq b 125) [
          | inl e ↦ absurd (let at = rw e at small in omega arith)
          | inr ne ↦ search (rules, tests)
        ]

escape-digits : (c : ℕ) (ds rest : List ℕ) → c ≤ greatest_character → 0 < length ds → length ds ≤ 5 → AllDigits 16 ds → digits_value_after 16 0 ds ≡ c
    → escape (117 ∷ 123 ∷ ds ++ 125 ∷ rest) ≡ Some (spelled c (3 + length ds))
escape-digits c ds rest small some few all is =
    let inside = braced-digits 6 ds rest (omega arith) all in
    let value : digits_value 16 ds ≡ Some c = digits_value_all 16 ds some ∙ with_digits_parsed 16 0 ds (omega arith) all ∙ ap (λ (n : ℕ). Some n) is in
    let test : nat_le c greatest_character ≡ true = search (rules, tests) in
    rw (inside, value, test) refl

-- ---- one character

-- the spelling of the first character, and what comes after it
abbrev IsSpelled : ℕ → List ℕ → Type 0
IsSpelled c rest = characters 0 (character_spelling c ++ rest) ≡ option_map (λ cs. c ∷ cs) (characters 0 rest)

spelled-plain : (c : ℕ) (rest : List ℕ) → 32 ≤ c → c ≤ 126 → (c == 92) ≡ false → (c == 34) ≡ false → IsSpelled c rest
spelled-plain c rest low high no_backslash no_quote =
    let from : nat_le 32 c ≡ true = search (rules, tests) in
    let to : nat_le c 126 ≡ true = search (rules, tests) in
    let plain : is_plain_byte c ≡ true = within (c == 9 || c == 10 || c == 13) from to in
    rw (no_quote, from, to, no_backslash, plain, no_quote, no_backslash) refl
  where
    within : (b : Bool) → nat_le 32 c ≡ true → nat_le c 126 ≡ true → (b || (nat_le 32 c && nat_le c 126)) ≡ true
    within true f t = refl
    within false f t = rw (f, t) refl

spelled-escape : (c : ℕ) (rest : List ℕ) → c ≤ greatest_character → stands_for_itself c ≡ false → (c == 34) ≡ false → IsSpelled c rest
spelled-escape c rest small special no_quote =
    let ds = digits 16 false c in
    let read = digits_is_IsNumeral 16 false (omega arith) (omega arith) c (omega arith) in
    let few = length-digits c small in
    let bytes : (ds ++ 125 ∷ []) ++ rest ≡ ds ++ 125 ∷ rest = append_assoc ds (125 ∷ []) rest in
    let escaped = escape-digits c ds rest small read.0.0 few read.0.1 read.1 in
    let skip : 3 + length ds ≡ suc (suc (length ds + 1)) = omega arith in
    let behind : drop (3 + length ds) (117 ∷ 123 ∷ ds ++ 125 ∷ rest) ≡ rest = rw skip (drop-append-add ds (125 ∷ rest) 1) in
    let escape_bytes = 117 ∷ 123 ∷ ds ++ 125 ∷ rest in
    let spelling : character_spelling c ++ rest ≡ 92 ∷ escape_bytes = rw (no_quote, special, bytes) refl in
    let here : character_at 92 escape_bytes ≡ Some (spelled c (3 + length ds)) = rw escaped refl in
    ap (characters 0) spelling ∙ characters-first 92 escape_bytes c (3 + length ds) here
    ∙ ap (λ (xs : List ℕ). option_map (λ cs. c ∷ cs) (characters 0 xs)) behind

spelled-character : (c : ℕ) (rest : List ℕ) → c ≤ greatest_character → IsSpelled c rest
spelled-character c rest small =
    elim (cases_eq c 34) [
      | inl quote ↦ rw quote refl
      | inr other ↦
          let no_quote : (c == 34) ≡ false = search (rules, tests) in
          elim (cases_eq c 92) [
            | inl backslash ↦ let special : stands_for_itself c ≡ false = rw backslash refl in spelled-escape c rest small special no_quote
            | inr neither ↦
                let no_backslash : (c == 92) ≡ false = search (rules, tests) in
                elim (cases_lt c 32) [
                  | inl low ↦
                      let from : nat_le 32 c ≡ false = search (rules, tests) in
                      let special : stands_for_itself c ≡ false = rw from refl in
                      spelled-escape c rest small special no_quote
                  | inr enough ↦
                      elim (cases_lt 126 c) [
                        | inl high ↦
                            let from : nat_le 32 c ≡ true = search (rules, tests) in
                            let to : nat_le c 126 ≡ false = search (rules, tests) in
                            let special : stands_for_itself c ≡ false = rw (from, to) refl in
                            spelled-escape c rest small special no_quote
                        | inr within ↦ spelled-plain c rest enough within no_backslash no_quote
                      ]
                ]
          ]
    ]

-- ---- all characters

spelled-all : (cs : List ℕ) → AreCharacters cs → characters 0 (flat_map character_spelling cs) ≡ Some cs
spelled-all [] all = refl
spelled-all (c ∷ cs) all =
    spelled-character c (flat_map character_spelling cs) (All-head (λ d. d ≤ greatest_character) c cs all)
    ∙ ap (option_map (λ ds. c ∷ ds)) (spelled-all cs (All-tail (λ d. d ≤ greatest_character) c cs all))

pub string_reads_back : (cs : List ℕ) → AreCharacters cs → string_value (string_spelling cs) ≡ Some cs
unfolding string_value string_spelling
string_reads_back cs all = spelled-all cs all
