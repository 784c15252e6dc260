-- The bytes of an atom are read back.
use Rattle.std.proofs.Common.{◌≡◌, refl, ℕ, suc, ◌+◌, ◌-◌, ◌≤◌, ◌<◌, Bool, true, false, List, [], ◌∷◌, ◌++◌, length, take, drop, ap, ◌∙◌, arith, inl, inr}
use Rattle.std.specs.Prelude.{cond, if◌then◌else◌, take_while, codes, ◌==◌, nat_lt}
use Rattle.std.specs.Int.{is_in_range}
use Rattle.std.specs.List.{prefix_len, list_all}
use Rattle.std.proofs.lemmas.Bool.{and_parts, cases_lt, ltb-true}
use Rattle.std.proofs.Math.Seq.{take-append_seam, drop-append_seam, drop-append-add}
use Rattle.eo_base.specs.declared.FaultName.TheVariants.{TokenLong}
use Rattle.eo_base.specs.Limits.{Limits}
use Rattle.eo_sexp.specs.AtomKind.{AtomKind}
use Rattle.eo_sexp.specs.AtomKind as kind
use Rattle.eo_sexp.specs.Sexp.{Atom}
use Rattle.eo_sexp.specs.Lexicon.{Class, Quote, Bar, Word, class, Input, advance, Body, Closes, StringByte, Delimiter, Inside, Outside, string_byte, string_turn, string, bar_at, quoted, is_space, is_text, is_quotable, is_word, is_one_of, kind_of}
use Rattle.eo_sexp.specs.Commands.{Whole, at_most, span, delimited_atom, delimited, word_before, atom}
use Rattle.eo_sexp.specs.Printing.{span_of, body_byte, is_body}
use Rattle.eo_sexp.proofs.PlainTables.{word-class as table-class}
use Rattle.eo_sexp.proofs.TokenTurns.{at_most-whole, word-of, run-whole, quoted-of}

-- ---- bytes of words

beyond_range : (low high x : ℕ) → high < x → is_in_range low high x ≡ false
beyond_range low high x h = grind arith

beyond_all : (bytes : List ℕ) (x : ℕ) → list_all (λ y. nat_lt y 256) bytes ≡ true → 256 ≤ x → is_one_of bytes x ≡ false
beyond_all [] x e h = refl
beyond_all (y ∷ ys) x e h =
    let parts = and_parts (nat_lt y 256) (list_all (λ z. nat_lt z 256) ys) e in
    let other : (y == x) ≡ false = differs y x (ltb-true y 256 parts.0) h in
    rw (other, beyond_all ys x parts.1 h) refl
  where
    differs : (a b : ℕ) → a < 256 → 256 ≤ b → (a == b) ≡ false
    differs a b less more = grind arith

no_word : (x : ℕ) → 256 ≤ x → is_word x ≡ false
unfolding is_word
no_word x h = rw (beyond_range 65 90 x (omega arith), beyond_range 97 122 x (omega arith), beyond_range 48 57 x (omega arith), beyond_all (codes "~!@$%^&*_-+=<>.?/:#") x refl h) refl

pub word-small : (x : ℕ) → is_word x ≡ true → x < 256
word-small x e = elim (cases_lt x 256) [ inl below ↦ below | inr beyond ↦ absurd (none beyond) ]
  where
    none : 256 ≤ x → ⊥
    none h = let out = no_word x h in cc

pub word-class : (x : ℕ) → is_word x ≡ true → class x ≡ Word
word-class x e = table-class x (word-small x e) e

-- ---- runs

run-all : (p : ℕ → Bool) (text : List ℕ) → list_all p text ≡ true → (ys : List ℕ) → prefix_len p (text ++ ys) ≡ length text + prefix_len p ys
run-all p [] e ys = omega arith
run-all p (y ∷ text) e ys =
    let parts = and_parts (p y) (list_all p text) e in
    ap (λ b. cond b (1 + prefix_len p (text ++ ys)) 0) parts.0 ∙ omega (arith, run-all p text parts.1 ys)

take_while-all : (p : ℕ → Bool) (text : List ℕ) (x : ℕ) (more : List ℕ) → list_all p text ≡ true → p x ≡ false → take_while p (text ++ x ∷ more) ≡ text
take_while-all p text x more e f = run-whole p text x more (run-all p text e) f

-- ---- words

-- an atom at a place, with x and more after it
abbrev pub AtomReads : Limits → Class → (bytes : List ℕ) → AtomKind → (text : List ℕ) → (size : ℕ) → ℕ → List ℕ → Type 0
AtomReads limits c bytes k text size x more = (from : ℕ) → atom limits c (record { at = from; bytes = bytes })
    ≡ Whole (Atom k text (span_of from size)) (record { at = from + size; bytes = x ∷ more })

module _ (limits : Limits) (x : ℕ) (more : List ℕ) where
  pub word-read : (text : List ℕ) → list_all is_word text ≡ true → is_word x ≡ false → length text ≤ limits.token →
      AtomReads limits Word (text ++ x ∷ more) (kind_of text) text (length text) x more
  unfolding atom word_before span advance
  word-read text e f fits from =
      let t : Input = record { at = from; bytes = text ++ x ∷ more } in
      ap (at_most TokenLong limits.token t) (word-of t text (x ∷ more) (take_while-all is_word text x more e f) (drop-append_seam text (x ∷ more)))
      ∙ at_most-whole TokenLong limits.token t _ _ (omega arith)
      ∙ ap (λ bs. Whole (Atom (kind_of text) text (span_of from (length text))) (record { at = from + length text; bytes = bs })) (drop-append_seam text (x ∷ more))

  -- ---- strings

  string-stops : (size : ℕ) → is_one_of (codes "\"") x ≡ false → string true size (x ∷ more) ≡ Closes size
  unfolding string string_byte string_turn
  string-stops size f = rw f (go (is_text x))
    where
      go : (b : Bool) → string_turn true (if b then Inside else Outside) size (λ c. string c (suc size) more) ≡ Closes size
      go true = refl
      go false = refl

  string-turns : (o : Bool) (b : StringByte) (size n : ℕ) (later : Bool → Body) (goes : Bool → Bool) →
      ((c : Bool) → goes c ≡ true → later c ≡ Closes n) → body_byte o b goes ≡ true → string_turn o b size later ≡ Closes n
  unfolding string_turn body_byte
  string-turns false Delimiter size n later goes h e = h true e
  string-turns false Inside size n later goes h e = h false e
  string-turns false Outside size n later goes h e = cc
  string-turns true Delimiter size n later goes h e = h false e
  string-turns true Inside size n later goes h e = cc
  string-turns true Outside size n later goes h e = cc

  string-all : (o : Bool) (size : ℕ) (text : List ℕ) → is_body o text ≡ true → is_one_of (codes "\"") x ≡ false →
      string o size (text ++ 34 ∷ x ∷ more) ≡ Closes (size + suc (length text))
  unfolding string is_body string_byte string_turn
  string-all true size [] e f = cc
  string-all false size [] e f = string-stops (suc size) f ∙ ap Closes (omega arith)
  string-all o size (y ∷ ys) e f =
      string-turns o (string_byte y) size (size + suc (suc (length ys))) _ (λ later. is_body later ys) (λ c g. string-all c (suc size) ys g f ∙ ap Closes (omega arith)) e

  pub string-read : (text : List ℕ) → is_body false text ≡ true → is_one_of (codes "\"") x ≡ false → 2 + length text ≤ limits.token →
      AtomReads limits Quote (34 ∷ text ++ 34 ∷ x ∷ more) kind.String text (2 + length text) x more
  unfolding atom delimited delimited_atom span advance
  string-read text e f fits from =
      let t : Input = record { at = from; bytes = 34 ∷ text ++ 34 ∷ x ∷ more } in
      let inside : take (2 + length text - 2) (text ++ 34 ∷ x ∷ more) ≡ text = ap (λ n. take n (text ++ 34 ∷ x ∷ more)) (omega arith) ∙ take-append_seam text (34 ∷ x ∷ more) in
      let size : 2 + length text ≡ suc (length text + 1) = omega arith in
      let behind : drop (2 + length text) (34 ∷ text ++ 34 ∷ x ∷ more) ≡ x ∷ more = ap (λ n. drop n (34 ∷ text ++ 34 ∷ x ∷ more)) size ∙ drop-append-add text (34 ∷ x ∷ more) 1 in
      ap (λ b. at_most TokenLong limits.token t (delimited kind.String t b)) (string-all false 1 text e f ∙ ap Closes (omega arith))
      ∙ at_most-whole TokenLong limits.token t _ _ (omega arith)
      ∙ ap (λ i. Whole (Atom kind.String i (span_of from (2 + length text))) (record { at = from + (2 + length text); bytes = drop (2 + length text) (34 ∷ text ++ 34 ∷ x ∷ more) })) inside
      ∙ ap (λ bs. Whole (Atom kind.String text (span_of from (2 + length text))) (record { at = from + (2 + length text); bytes = bs })) behind

  -- ---- quoted symbols

  bar-outside : is_quotable 124 ≡ false
  unfolding is_quotable is_text is_space
  bar-outside = refl

  quoted-all : (text : List ℕ) → list_all is_quotable text ≡ true → quoted (text ++ 124 ∷ x ∷ more) ≡ Closes (2 + length text)
  unfolding bar_at
  quoted-all text e =
      quoted-of limits (text ++ 124 ∷ x ∷ more) text (124 ∷ x ∷ more) (take_while-all is_quotable text 124 (x ∷ more) e bar-outside) (drop-append_seam text (124 ∷ x ∷ more))
      ∙ ap Closes (omega arith)

  pub quoted-read : (text : List ℕ) → list_all is_quotable text ≡ true → 2 + length text ≤ limits.token →
      AtomReads limits Bar (124 ∷ text ++ 124 ∷ x ∷ more) kind.Symbol text (2 + length text) x more
  unfolding atom delimited delimited_atom span advance
  quoted-read text e fits from =
      let t : Input = record { at = from; bytes = 124 ∷ text ++ 124 ∷ x ∷ more } in
      let inside : take (2 + length text - 2) (text ++ 124 ∷ x ∷ more) ≡ text = ap (λ n. take n (text ++ 124 ∷ x ∷ more)) (omega arith) ∙ take-append_seam text (124 ∷ x ∷ more) in
      let size : 2 + length text ≡ suc (length text + 1) = omega arith in
      let behind : drop (2 + length text) (124 ∷ text ++ 124 ∷ x ∷ more) ≡ x ∷ more = ap (λ n. drop n (124 ∷ text ++ 124 ∷ x ∷ more)) size ∙ drop-append-add text (124 ∷ x ∷ more) 1 in
      ap (λ b. at_most TokenLong limits.token t (delimited kind.Symbol t b)) (quoted-all text e)
      ∙ at_most-whole TokenLong limits.token t _ _ (omega arith)
      ∙ ap (λ i. Whole (Atom kind.Symbol i (span_of from (2 + length text))) (record { at = from + (2 + length text); bytes = drop (2 + length text) (124 ∷ text ++ 124 ∷ x ∷ more) })) inside
      ∙ ap (λ bs. Whole (Atom kind.Symbol text (span_of from (2 + length text))) (record { at = from + (2 + length text); bytes = bs })) behind
