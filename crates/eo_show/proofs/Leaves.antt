-- Spellings of literals are words, and those of strings can be between quotes.
use Rattle.std.specs.Prelude.{◌≡◌, refl, ℕ, zero, suc, ◌+◌, ◌*◌, ◌/◌, ◌%◌, ◌^◌, ◌<◌, ◌≤◌, pos, negsuc, Bool, true, false, not, ◌&&◌, ◌==◌, List, [], ◌∷◌, ◌++◌, length, flat_map, if◌then◌else◌, codes}
use Rattle.std.specs.List.{list_all}
use Rattle.std.specs.Fmt.{decimal, digits, digits_onto, digit_glyph}
use Rattle.std.specs.Char.{is_ascii_digit}
use Rattle.std.proofs.Common.{◌∙◌, ap, arith, length-append, inl, inr, rules, tests, pow-suc}
use Rattle.std.proofs.lemmas.Bool.{leb-true, cases_lt}
use Rattle.eo_base.proofs.Tests.{both, join}
use Rattle.eo_lit.specs.Literals.{Literal, Number, BitString}
use Rattle.eo_lit.specs.Spelling.{bits, literal_spelling, stands_for_itself, character_spelling, string_spelling}
use Rattle.eo_sexp.specs.AtomKind as kind
use Rattle.eo_sexp.specs.Lexicon.{StringByte, Delimiter, Inside, Outside, is_word, is_space, is_text, is_one_of, begins_digit, kind_of, string_byte}
use Rattle.eo_sexp.specs.Printing.{is_word_of, same_kind, body_byte, is_body}
use Rattle.eo_sexp.proofs.ByteTests.{agree_below, agree_at, implies, implied}

length-bits : (w v : ℕ) → length (bits w v) ≡ w
length-bits zero v = refl
length-bits (suc w) v = length-append (bits w (v / 2)) ((48 + v % 2) ∷ []) ∙ rw (length-bits w (v / 2)) (omega arith)

-- how many bits are spelled
abbrev pub width_of : Literal → ℕ
width_of (Number z) = 0
width_of (BitString w v) = w

-- a character that represents itself, and is no quote
is_itself : ℕ → Bool
is_itself c = stands_for_itself c && not (c == 34)

-- ---- digits

digit-word : (d : ℕ) → d < 10 → is_word (digit_glyph false d) ≡ true
unfolding agree_below is_word
digit-word d lt = agree_at (λ d. is_word (digit_glyph false d)) (λ d. true) 10 refl d lt

digit-digit : (d : ℕ) → d < 10 → is_ascii_digit (digit_glyph false d) ≡ true
unfolding agree_below
digit-digit d lt = agree_at (λ d. is_ascii_digit (digit_glyph false d)) (λ d. true) 10 refl d lt

pub record AreDigits (ds : List ℕ) : Type 0 where
  pub words : list_all is_word ds ≡ true
  pub begin : begins_digit ds ≡ true

digits_onto-words : (k n : ℕ) (after : List ℕ) → AreDigits after → AreDigits (digits_onto k 10 false n after)
unfolding begins_digit
digits_onto-words zero n after h = h
digits_onto-words (suc k) n after h = go (n / 10 == 0) (digits_onto-words k (n / 10) (digit_glyph false (n % 10) ∷ after) next)
  where
    next : AreDigits (digit_glyph false (n % 10) ∷ after)
    next = record { words = join (digit-word (n % 10) (omega arith)) h.words; begin = digit-digit (n % 10) (omega arith) }

    go : (b : Bool) → AreDigits (digits_onto k 10 false (n / 10) (digit_glyph false (n % 10) ∷ after)) → AreDigits (if b then digit_glyph false (n % 10) ∷ after else digits_onto k 10 false (n / 10) (digit_glyph false (n % 10) ∷ after))
    go true later = next
    go false later = later

first-digits : (k n : ℕ) → AreDigits (digits_onto (suc k) 10 false n [])
unfolding begins_digit
first-digits k n = go (n / 10 == 0) (digits_onto-words k (n / 10) (digit_glyph false (n % 10) ∷ []) one)
  where
    one : AreDigits (digit_glyph false (n % 10) ∷ [])
    one = record { words = join (digit-word (n % 10) (omega arith)) refl; begin = digit-digit (n % 10) (omega arith) }

    go : (b : Bool) → AreDigits (digits_onto k 10 false (n / 10) (digit_glyph false (n % 10) ∷ [])) → AreDigits (if b then digit_glyph false (n % 10) ∷ [] else digits_onto k 10 false (n / 10) (digit_glyph false (n % 10) ∷ []))
    go true later = one
    go false later = later

pub decimal-digits : (n : ℕ) → AreDigits (decimal n)
unfolding digits
decimal-digits n = first-digits 63 n

length-digits_onto : (k n : ℕ) (after : List ℕ) → length (digits_onto k 10 false n after) ≤ k + length after
length-digits_onto zero n after = omega arith
length-digits_onto (suc k) n after = go (n / 10 == 0) (length-digits_onto k (n / 10) (digit_glyph false (n % 10) ∷ after))
  where
    go : (b : Bool) → length (digits_onto k 10 false (n / 10) (digit_glyph false (n % 10) ∷ after)) ≤ k + suc (length after) →
        length (if b then digit_glyph false (n % 10) ∷ after else digits_onto k 10 false (n / 10) (digit_glyph false (n % 10) ∷ after)) ≤ suc k + length after
    go true h = omega arith
    go false h = omega arith

length-decimal : (n : ℕ) → length (decimal n) ≤ 64
unfolding digits
length-decimal n = omega (arith, length-digits_onto 64 n [])

length-low : (k j n : ℕ) (after : List ℕ) → 1 ≤ j → j ≤ k → n < 10 ^ j → length (digits_onto k 10 false n after) ≤ j + length after
length-low zero j n after some few small = absurd (omega arith)
length-low (suc k) zero n after some few small = absurd (omega arith)
length-low (suc k) (suc j) n after some few small =
    elim (cases_lt n 10) [
      | inl last ↦
          let none : n / 10 ≡ 0 = omega arith in
          let test : (n / 10 == 0) ≡ true = rw none refl in
          rw test (omega arith)
      | inr more ↦
          let test : (n / 10 == 0) ≡ false = search (rules, tests) in
          let power : 10 ^ suc j ≡ 10 ^ j * 10 = pow-suc 10 j in
          let high : n / 10 < 10 ^ j = omega arith in
          let another : 1 ≤ j = more_than_one j (n / 10) high (omega arith) in
          rw test (omega (arith, length-low k j (n / 10) (digit_glyph false (n % 10) ∷ after) another (omega arith) high))
    ]
  where
    more_than_one : (i m : ℕ) → m < 10 ^ i → 1 ≤ m → 1 ≤ i
    more_than_one zero m less some' = absurd (omega arith)
    more_than_one (suc i) m less some' = omega arith

-- at most 20 digits
pub length-small_decimal : (n : ℕ) → n < 2 ^ 64 → length (decimal n) ≤ 20
unfolding digits
length-small_decimal n small = omega (arith, length-low 64 20 n [] (omega arith) (omega arith) (omega arith))

-- ---- words

no-colon : (x : ℕ) → is_ascii_digit x ≡ true → is_one_of (codes ":") x ≡ false
no-colon x e = grind arith

digit-kind : (ds : List ℕ) → begins_digit ds ≡ true → same_kind (kind_of ds) kind.Literal ≡ true
unfolding begins_digit kind_of
digit-kind [] e = cc
digit-kind (x ∷ xs) e = rw (no-colon x e, e) refl

digits-literal : (ds : List ℕ) → AreDigits ds → is_word_of kind.Literal ds ≡ true
unfolding begins_digit
digits-literal [] h = let b = h.begin in cc
digits-literal (x ∷ xs) h = join h.words (digit-kind (x ∷ xs) h.begin)

minus-literal : (ds : List ℕ) → AreDigits ds → is_word_of kind.Literal (45 ∷ ds) ≡ true
unfolding kind_of is_word
minus-literal ds h = rw (h.words, h.begin) refl

binary : (d : ℕ) → d < 2 → is_word (48 + d) ≡ true
unfolding agree_below is_word
binary d lt = agree_at (λ d. is_word (48 + d)) (λ d. true) 2 refl d lt

bits-words : (w v : ℕ) → list_all is_word (bits w v) ≡ true
bits-words zero v = refl
bits-words (suc w) v = all-push (bits w (v / 2)) (48 + v % 2) (bits-words w (v / 2)) (binary (v % 2) (omega arith))
  where
    all-push : (xs : List ℕ) (x : ℕ) → list_all is_word xs ≡ true → is_word x ≡ true → list_all is_word (xs ++ x ∷ []) ≡ true
    all-push [] x e f = join f refl
    all-push (y ∷ ys) x e f = join (both e).0 (all-push ys x (both e).1 f)

bits-literal : (w v : ℕ) → is_word_of kind.Literal (codes "#b" ++ bits w v) ≡ true
unfolding kind_of is_word
bits-literal w v = rw (bits-words w v) refl

pub literal-word : (l : Literal) → is_word_of kind.Literal (literal_spelling l) ≡ true
unfolding literal_spelling
literal-word (Number (pos n)) = digits-literal (decimal n) (decimal-digits n)
literal-word (Number (negsuc n)) = minus-literal (decimal (suc n)) (decimal-digits (suc n))
literal-word (BitString w v) = bits-literal w v

pub length-literal : (l : Literal) → length (literal_spelling l) ≤ 65 + width_of l
unfolding literal_spelling
length-literal (Number (pos n)) = omega (arith, length-decimal n)
length-literal (Number (negsuc n)) = omega (arith, length-decimal (suc n))
length-literal (BitString w v) = omega (arith, length-bits w v)

-- ---- strings

-- bytes that may be in a string literal, none of them a quote
abbrev AreInside : List ℕ → Type 0
AreInside [] = Unit {0}
AreInside (x ∷ xs) = (string_byte x ≡ Inside) × AreInside xs

inside-body : (xs ys : List ℕ) → AreInside xs → is_body false (xs ++ ys) ≡ is_body false ys
unfolding is_body body_byte
inside-body [] ys h = refl
inside-body (x ∷ xs) ys h = ap (λ b. body_byte false b (λ later. is_body later (xs ++ ys))) h.0 ∙ inside-body xs ys h.1

inside-append : (xs ys : List ℕ) → AreInside xs → AreInside ys → AreInside (xs ++ ys)
inside-append [] ys h k = k
inside-append (x ∷ xs) ys h k = (h.0, inside-append xs ys h.1 k)

is_inside : StringByte → Bool
is_inside Inside = true
is_inside b = false

inside-is : (b : StringByte) → is_inside b ≡ true → b ≡ Inside
unfolding is_inside
inside-is Inside e = refl
inside-is Delimiter e = cc
inside-is Outside e = cc

hex-digit : (d : ℕ) → d < 16 → string_byte (digit_glyph false d) ≡ Inside
unfolding agree_below is_inside string_byte is_text is_space
hex-digit d lt = inside-is (string_byte (digit_glyph false d)) (agree_at (λ d. is_inside (string_byte (digit_glyph false d))) (λ d. true) 16 refl d lt)

itself-inside : (c : ℕ) → c < 127 → is_itself c ≡ true → string_byte c ≡ Inside
unfolding agree_below is_inside is_itself implies string_byte is_text is_space
itself-inside c lt e = inside-is (string_byte c) (implied (is_itself c) (is_inside (string_byte c)) (agree_at (λ c. implies (is_itself c) (is_inside (string_byte c))) (λ c. true) 127 refl c lt) e)

hex-inside : (k n : ℕ) (after : List ℕ) → AreInside after → AreInside (digits_onto k 16 false n after)
hex-inside zero n after h = h
hex-inside (suc k) n after h = go (n / 16 == 0) (hex-inside k (n / 16) (digit_glyph false (n % 16) ∷ after) (hex-digit (n % 16) (omega arith), h))
  where
    go : (b : Bool) → AreInside (digits_onto k 16 false (n / 16) (digit_glyph false (n % 16) ∷ after)) → AreInside (if b then digit_glyph false (n % 16) ∷ after else digits_onto k 16 false (n / 16) (digit_glyph false (n % 16) ∷ after))
    go true later = (hex-digit (n % 16) (omega arith), h)
    go false later = later

escape-inside : (c : ℕ) → AreInside (codes "\\u{" ++ (digits 16 false c ++ codes "}"))
unfolding digits string_byte is_text is_space
escape-inside c = (refl, (refl, (refl, inside-append (digits_onto 64 16 false c []) (codes "}") (hex-inside 64 c [] tt) (refl, tt))))

empty : is_body false [] ≡ true
unfolding is_body
empty = refl

quotes-body : (rest : List ℕ) → is_body false (34 ∷ 34 ∷ rest) ≡ is_body false rest
unfolding is_body body_byte string_byte
quotes-body rest = refl

character-body : (c : ℕ) (rest : List ℕ) → is_body false (character_spelling c ++ rest) ≡ is_body false rest
unfolding is_itself
character-body c rest = go (c == 34) refl (stands_for_itself c) refl
  where
    escaped : List ℕ
    escaped = codes "\\u{" ++ (digits 16 false c ++ codes "}")

    go : (q : Bool) → (c == 34) ≡ q → (b : Bool) → stands_for_itself c ≡ b → is_body false ((if q then codes "\"\"" else if b then c ∷ [] else escaped) ++ rest) ≡ is_body false rest
    go true e b f = quotes-body rest
    go false e true f = inside-body (c ∷ []) rest (itself-inside c (small f) (ap (λ b. b && not (c == 34)) f ∙ ap not e), tt)
      where
        small : stands_for_itself c ≡ true → c < 127
        small f = omega (arith, leb-true c 126 (both (both f).0).1)
    go false e false f = inside-body escaped rest (escape-inside c)

pub string-body : (s : List ℕ) → is_body false (string_spelling s) ≡ true
unfolding string_spelling
string-body s = go s
  where
    go : (s : List ℕ) → is_body false (flat_map character_spelling s) ≡ true
    go [] = empty
    go (c ∷ s) = character-body c (flat_map character_spelling s) ∙ go s
