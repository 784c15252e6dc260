-- Literals of the language are within their ranges.
use Rattle.std.specs.Prelude.{◌≡◌, ℕ, zero, suc, pos, neg_ℤ, ◌*◌, ◌^◌, ◌<◌, ◌≤◌, ◌==◌, Bool, true, false, not, ◌&&◌, nat_le, nat_lt, if◌then◌else◌, List, [], ◌∷◌, length, take, drop, slice_index, Option, Some, None, option_map, option_and_then, refl}
use Rattle.std.specs.List.{list_all}
use Rattle.std.proofs.Common.{arith, subst, sym}
use Rattle.std.proofs.lemmas.Bool.{le-leb, leb-true, lt-ltb}
use Rattle.eo_base.specs.Limits.{numbers_limit, characters_limit}
use Rattle.eo_base.proofs.Tests.{both, join}
use Rattle.eo_lit.specs.Literals.{Literal, Number, BitString, positive, negative, bit_string, hash_literal, numeral, digits_value, literal_value, Spelled, spelled, character_of, in_braces, braced, four_digits, escape, is_plain_byte, or_itself, character_at, characters, string_value, greatest_character}
use Rattle.eo_lit.proofs.Digits.{with_digits_below}
use Rattle.eo_lit.proofs.Words.{hexadecimal_fits}
use Rattle.eo_term.specs.Tree.{Str}
use Rattle.eo_elab.specs.Meaning.{literal_tree}
use Rattle.eo_roundtrip.proofs.Within.{is_character, is_text}
use Rattle.eo_roundtrip.proofs.Ranges.{bits-fit}
use Rattle.eo_roundtrip.proofs.Puts.{SomeWithin}

-- ---- numbers and bit strings

abbrev LiteralFits : Option Literal → Type 0
LiteralFits o = SomeWithin (option_map literal_tree o)

none-fits : (o : Option ℕ) (f : ℕ → Option Literal) → ((n : ℕ) → o ≡ Some n → LiteralFits (f n)) → LiteralFits (option_and_then f o)
none-fits None f h = tt
none-fits (Some n) f h = h n refl

positive-fits : (n : ℕ) → LiteralFits (positive n)
positive-fits n = by_test (nat_lt n (2 ^ 127)) refl
  where
    by_test : (b : Bool) → nat_lt n (2 ^ 127) ≡ b → LiteralFits (if b then Some (Number (pos n)) else None)
    by_test true e = e
    by_test false e = tt

negative-fits : (n : ℕ) → LiteralFits (negative n)
negative-fits zero = tt
negative-fits (suc m) = by_test (nat_le 1 (suc m) && nat_le (suc m) (2 ^ 127)) refl
  where
    by_test : (b : Bool) → (nat_le 1 (suc m) && nat_le (suc m) (2 ^ 127)) ≡ b → LiteralFits (if b then Some (Number (neg_ℤ (pos (suc m)))) else None)
    by_test true e = lt-ltb m numbers_limit (omega (arith, leb-true (suc m) (2 ^ 127) (both e).1))
    by_test false e = tt

bit-string-fits : (base bits : ℕ) (bytes : List ℕ) → ((v : ℕ) → digits_value base bytes ≡ Some v → v < 2 ^ (bits * length bytes)) → LiteralFits (bit_string base bits bytes)
bit-string-fits base bits bytes h = by_test (nat_le (bits * length bytes) 128) refl
  where
    by_value : (o : Option ℕ) → digits_value base bytes ≡ o → bits * length bytes ≤ 128 → LiteralFits (option_map (BitString (bits * length bytes)) o)
    by_value None e few = tt
    by_value (Some v) e few = bits-fit (bits * length bytes) v few (h v e)

    by_test : (b : Bool) → nat_le (bits * length bytes) 128 ≡ b → LiteralFits (if b then option_map (BitString (bits * length bytes)) (digits_value base bytes) else None)
    by_test true e = by_value (digits_value base bytes) refl (leb-true (bits * length bytes) 128 e)
    by_test false e = tt

binary-below : (bytes : List ℕ) (v : ℕ) → digits_value 2 bytes ≡ Some v → v < 2 ^ (1 * length bytes)
binary-below [] v e = cc
binary-below (b ∷ bytes) v e =
    let below = with_digits_below 2 0 (b ∷ bytes) v e in
    let one : 1 * length (b ∷ bytes) ≡ length (b ∷ bytes) = omega arith in
    subst (λ (n : ℕ). v < 2 ^ n) (sym one) (omega (arith, below))

hash-fits : (bytes : List ℕ) → LiteralFits (hash_literal bytes)
hash-fits [] = tt
hash-fits (b ∷ bytes) = by_tests (b == 98) (b == 120)
  where
    by_tests : (c d : Bool) → LiteralFits (if c then bit_string 2 1 bytes else if d then bit_string 16 4 bytes else None)
    by_tests true d = bit-string-fits 2 1 bytes (binary-below bytes)
    by_tests false true = bit-string-fits 16 4 bytes (λ v e. (hexadecimal_fits v bytes e).1)
    by_tests false false = tt

pub literal-within : (text : List ℕ) → SomeWithin (option_map literal_tree (literal_value text))
unfolding literal_value
literal-within [] = tt
literal-within (b ∷ bytes) = by_tests (b == 35) (b == 45)
  where
    by_tests : (c d : Bool) → LiteralFits (if c then hash_literal bytes else if d then option_and_then negative (numeral bytes) else option_and_then positive (numeral (b ∷ bytes)))
    by_tests true d = hash-fits bytes
    by_tests false true = none-fits (numeral bytes) negative (λ n e. negative-fits n)
    by_tests false false = none-fits (numeral (b ∷ bytes)) positive (λ n e. positive-fits n)

-- ---- strings

abbrev SpelledFits : Option Spelled → Type 0
SpelledFits None = Unit {0}
SpelledFits (Some s) = is_character s.character ≡ true

of-digits : (digits : List ℕ) (more : ℕ) → SpelledFits (character_of digits more)
of-digits digits more = by_value (digits_value 16 digits)
  where
    by_test : (v : ℕ) (b : Bool) → nat_le v greatest_character ≡ b → SpelledFits (if b then Some (spelled v more) else None)
    by_test v true e = e
    by_test v false e = tt

    by_value : (o : Option ℕ) → SpelledFits (option_and_then (λ v. if nat_le v greatest_character then Some (spelled v more) else None) o)
    by_value None = tt
    by_value (Some v) = by_test v (nat_le v greatest_character) refl

braces-fit : (o : Option (List ℕ)) → SpelledFits (in_braces o)
braces-fit None = tt
braces-fit (Some digits) = of-digits digits _

four-fit : (bytes : List ℕ) → SpelledFits (four_digits bytes)
four-fit bytes = by_test (nat_le 4 (length bytes))
  where
    by_test : (b : Bool) → SpelledFits (if b then character_of (take 4 bytes) 5 else None)
    by_test true = of-digits (take 4 bytes) 5
    by_test false = tt

escape-fits : (bytes : List ℕ) → SpelledFits (escape bytes)
escape-fits bytes = by_tests (not (slice_index bytes 0 == 117)) (slice_index bytes 1 == 123)
  where
    by_tests : (c d : Bool) → SpelledFits (if c then None else if d then in_braces (braced 6 (drop 2 bytes)) else four_digits (drop 1 bytes))
    by_tests true d = tt
    by_tests false true = braces-fit (braced 6 (drop 2 bytes))
    by_tests false false = four-fit (drop 1 bytes)

character-fits : (b : ℕ) (bytes : List ℕ) → is_character b ≡ true → SpelledFits (character_at b bytes)
character-fits b bytes h = by_tests (not (is_plain_byte b)) (b == 34) (b == 92)
  where
    itself : (o : Option Spelled) → SpelledFits o → is_character (or_itself b o).character ≡ true
    itself None k = h
    itself (Some s) k = k

    quote : (c : Bool) → SpelledFits (if c then Some (spelled 34 1) else None)
    quote true = refl
    quote false = tt

    by_tests : (c d e : Bool) → SpelledFits (if c then None else if d then (if slice_index bytes 0 == 34 then Some (spelled 34 1) else None) else if e then Some (or_itself b (escape bytes)) else Some (spelled b 0))
    by_tests true d e = tt
    by_tests false true e = quote (slice_index bytes 0 == 34)
    by_tests false false true = itself (escape bytes) (escape-fits bytes)
    by_tests false false false = h

-- characters, no more than so many
abbrev FewCharacters : ℕ → Option (List ℕ) → Type 0
FewCharacters n None = Unit {0}
FewCharacters n (Some cs) = (list_all is_character cs ≡ true) × (length cs ≤ n)

more-bytes : (n : ℕ) (o : Option (List ℕ)) → FewCharacters n o → FewCharacters (suc n) o
more-bytes n None h = tt
more-bytes n (Some cs) h = (h.0, omega (arith, h.1))

characters-fit : (skip : ℕ) (bytes : List ℕ) → list_all is_character bytes ≡ true → FewCharacters (length bytes) (characters skip bytes)
characters-fit skip [] h = (refl, omega arith)
characters-fit (suc skip) (b ∷ bytes) h = more-bytes (length bytes) (characters skip bytes) (characters-fit skip bytes (both h).1)
characters-fit zero (b ∷ bytes) h = by_character (character_at b bytes) (character-fits b bytes (both h).0) (λ n. characters-fit n bytes (both h).1)
  where
    onto : (c : ℕ) (o : Option (List ℕ)) → is_character c ≡ true → FewCharacters (length bytes) o → FewCharacters (suc (length bytes)) (option_map (λ cs. c ∷ cs) o)
    onto c None k l = tt
    onto c (Some cs) k l = (join k l.0, omega (arith, l.1))

    by_character : (o : Option Spelled) → SpelledFits o → ((n : ℕ) → FewCharacters (length bytes) (characters n bytes)) →
        FewCharacters (suc (length bytes)) (option_and_then (λ s. option_map (λ cs. s.character ∷ cs) (characters s.more bytes)) o)
    by_character None k later = tt
    by_character (Some s) k later = onto s.character (characters s.more bytes) k (later s.more)

pub string-within : (text : List ℕ) → is_text text ≡ true → SomeWithin (option_map Str (string_value text))
unfolding string_value
string-within text h = by_value (characters 0 text) (characters-fit 0 text (both h).0)
  where
    by_value : (o : Option (List ℕ)) → FewCharacters (length text) o → SomeWithin (option_map Str o)
    by_value None k = tt
    by_value (Some cs) k = join k.0 (le-leb (length cs) characters_limit (omega (arith, k.1, leb-true (length text) characters_limit (both h).1)))
