-- The text of each atom of a command that was read has characters alone, and no more than a token.
use Rattle.std.proofs.Common.{◌≡◌, refl, ℕ, zero, suc, ◌+◌, ◌-◌, ◌≤◌, Bool, true, false, List, [], ◌∷◌, length, take, drop, ap, sym, ◌∙◌, arith, subst, inl, inr}
use Rattle.std.specs.Prelude.{if◌then◌else◌, take_while, codes, ◌||◌, nat_le, nat_lt, ◌==◌, Option, Some, None}
use Rattle.std.specs.List.{prefix_len, list_all}
use Rattle.std.proofs.lemmas.Bool.{and_parts, leb-true, le-leb, cases_lt, ltb-true, eqb-true}
use Rattle.std.proofs.lemmas.List.Folds.{length-prefix_len}
use Rattle.eo_base.proofs.Tests.{both, join}
use Rattle.eo_base.specs.declared.FaultName.{FaultName}
use Rattle.eo_base.specs.declared.FaultName.TheVariants.{TokenLong, CommandLong}
use Rattle.eo_base.specs.Limits.{Limits}
use Rattle.eo_sexp.specs.AtomKind as kind
use Rattle.eo_sexp.specs.Sexp.{Sexp, Atom, Listed, Sexps, NoSexp, Next}
use Rattle.eo_sexp.specs.Lexicon.{Class, Space, Comment, Open, Close, Quote, Bar, Word, Other, Input, advance, skip, Body, Closes, Stops, RunsOut, Delimiter, Inside, Outside, string_byte, string_turn, string, bar_at, quoted, is_space, is_text, is_quotable, is_word, is_one_of, kind_of}
use Rattle.eo_sexp.specs.Commands.{Reading, Whole, Refused, Cut, ◌>>=◌, at_most, span, delimited_atom, delimited, word_before, word, atom, front, prepend, and_others, listed, opened, turn, children, lists, sexp, command}
use Rattle.eo_sexp.proofs.ReadSymbols.{run-passes, words-quotable}
use Rattle.eo_roundtrip.proofs.Texts.{is_character, IsTextOf, TextsFit, AllTextsFit}

-- ---- bytes

beyond_all : (bytes : List ℕ) (x : ℕ) → list_all (λ y. nat_lt y 256) bytes ≡ true → 256 ≤ x → is_one_of bytes x ≡ false
beyond_all [] x e h = refl
beyond_all (y ∷ ys) x e h =
    let parts = and_parts (nat_lt y 256) (list_all (λ z. nat_lt z 256) ys) e in
    let other : (y == x) ≡ false = differs y x (ltb-true y 256 parts.0) h in
    rw (other, beyond_all ys x parts.1 h) refl
  where
    differs : (a b : ℕ) → suc a ≤ 256 → 256 ≤ b → (a == b) ≡ false
    differs a b less more = grind arith

no_text : (x : ℕ) → 256 ≤ x → is_text x ≡ false
unfolding is_text is_space
no_text x h =
    let low : nat_le x 126 ≡ false = grind arith in
    let high : nat_le x 255 ≡ false = grind arith in
    let wide : nat_le 32 x ≡ true = grind arith in
    let wider : nat_le 128 x ≡ true = grind arith in
    rw (beyond_all (codes "\t\n\r ") x refl h, low, high, wide, wider) refl

text-small : (x : ℕ) → is_text x ≡ true → is_character x ≡ true
text-small x e = elim (cases_lt x 256) [ inl below ↦ le-leb x 0x2_ffff (omega (arith, below)) | inr beyond ↦ absurd (none beyond) ]
  where
    none : 256 ≤ x → ⊥
    none h = let out = no_text x h in cc

quotable-text : (x : ℕ) → is_quotable x ≡ true → is_text x ≡ true
unfolding is_quotable
quotable-text x e = (both e).0

all-small : (xs : List ℕ) → list_all is_text xs ≡ true → list_all is_character xs ≡ true
all-small [] e = refl
all-small (x ∷ xs) e = join (text-small x (both e).0) (all-small xs (both e).1)

all-text : (xs : List ℕ) → list_all is_quotable xs ≡ true → list_all is_text xs ≡ true
all-text [] e = refl
all-text (x ∷ xs) e = join (quotable-text x (both e).0) (all-text xs (both e).1)

pub words-small : (xs : List ℕ) → list_all is_word xs ≡ true → list_all is_character xs ≡ true
words-small xs e = all-small xs (all-text xs (words-quotable xs e))

-- ---- parts of texts

all-fewer : (p : ℕ → Bool) (n m : ℕ) (xs : List ℕ) → n ≤ m → list_all p (take m xs) ≡ true → list_all p (take n xs) ≡ true
all-fewer p zero m xs h e = refl
all-fewer p (suc n) zero xs h e = absurd (omega arith)
all-fewer p (suc n) (suc m) [] h e = refl
all-fewer p (suc n) (suc m) (x ∷ xs) h e = join (both e).0 (all-fewer p n m xs (omega arith) (both e).1)

pub all-front : {A : Type 0} (p : A → Bool) (n : ℕ) (xs : List A) → list_all p xs ≡ true → list_all p (take n xs) ≡ true
all-front p zero xs e = refl
all-front p (suc n) [] e = refl
all-front p (suc n) (x ∷ xs) e = join (both e).0 (all-front p n xs (both e).1)

take-few : (n : ℕ) (xs : List ℕ) → length (take n xs) ≤ n
take-few zero xs = omega arith
take-few (suc n) [] = omega arith
take-few (suc n) (x ∷ xs) = omega (arith, take-few n xs)

or-false : (b : Bool) → (b || false) ≡ true → b ≡ true
or-false true e = refl
or-false false e = e

quote-text : (x : ℕ) → is_one_of (codes "\"") x ≡ true → is_text x ≡ true
unfolding is_text is_space
quote-text x e = subst (λ (y : ℕ). is_text y ≡ true) (eqb-true 34 x (or-false (34 == x) e)) refl

-- what is in a string literal is text, its quotes too
abbrev StringHolds : ℕ → List ℕ → Body → Type 0
StringHolds size xs (Closes n) = (size ≤ n) × (list_all is_text (take (n - size) xs) ≡ true)
StringHolds size xs (Stops n) = Unit {0}
StringHolds size xs (RunsOut c) = list_all is_text xs ≡ true

string-holds : (closed : Bool) (size : ℕ) (xs : List ℕ) → StringHolds size xs (string closed size xs)
unfolding string string_turn string_byte
string-holds closed size [] = refl
string-holds closed size (x ∷ xs) = by_quote (λ c. string-holds c (suc size) xs) closed (is_one_of (codes "\"") x) refl
  where
    more : (b : Body) → is_text x ≡ true → StringHolds (suc size) xs b → StringHolds size (x ∷ xs) b
    more (Closes n) t h =
        let front : n - size ≡ suc (n - suc size) = omega (arith, h.0) in
        (omega (arith, h.0), ap (λ k. list_all is_text (take k (x ∷ xs))) front ∙ join t h.1)
    more (Stops n) t h = tt
    more (RunsOut c) t h = join t h

    closes : StringHolds size (x ∷ xs) (Closes size)
    closes = let none : size - size ≡ 0 = omega arith in (omega arith, ap (λ k. list_all is_text (take k (x ∷ xs))) none)

    by_text : ((c : Bool) → StringHolds (suc size) xs (string c (suc size) xs)) → (c b : Bool) → is_text x ≡ b → StringHolds size (x ∷ xs) (string_turn c (if b then Inside else Outside) size (λ c. string c (suc size) xs))
    by_text later false true t = more (string false (suc size) xs) t (later false)
    by_text later false false t = tt
    by_text later true true t = closes
    by_text later true false t = closes

    by_quote : ((c : Bool) → StringHolds (suc size) xs (string c (suc size) xs)) → (c b : Bool) → is_one_of (codes "\"") x ≡ b → StringHolds size (x ∷ xs) (string_turn c (if b then Delimiter else if is_text x then Inside else Outside) size (λ c. string c (suc size) xs))
    by_quote later false true e = more (string true (suc size) xs) (quote-text x e) (later true)
    by_quote later true true e = more (string false (suc size) xs) (quote-text x e) (later false)
    by_quote later c false e = by_text later c (is_text x) refl

-- ---- readings

value_or : {A : Type 0} → A → Reading A → A
value_or d (Whole x rest) = x
value_or d r = d

rest_or : {A : Type 0} → Input → Reading A → Input
rest_or d (Whole x rest) = rest
rest_or d r = d

same-value : {A : Type 0} (x y : A) (r s : Input) → Whole x r ≡ Whole y s → x ≡ y
unfolding value_or
same-value x y r s e = ap (value_or x) e

same-rest : {A : Type 0} (x y : A) (r s : Input) → Whole x r ≡ Whole y s → r ≡ s
unfolding rest_or
same-rest x y r s e = ap (rest_or r) e

bind-whole : {A B : Type 0} (m : Reading A) (f : A → Input → Reading B) (y : B) (rest : Input) → (m >>= f) ≡ Whole y rest → (x : A) × (r : Input) × (m ≡ Whole x r) × (f x r ≡ Whole y rest)
unfolding ◌>>=◌
bind-whole (Whole x r) f y rest e = (x, r, refl, e)
bind-whole (Refused name at) f y rest e = cc
bind-whole (Cut o) f y rest e = cc

at_most-inside : {A : Type 0} (name : FaultName) (most : ℕ) (t : Input) (m : Reading A) (x : A) (rest : Input) → at_most name most t m ≡ Whole x rest → (m ≡ Whole x rest) × (rest.at ≤ t.at + most)
unfolding at_most
at_most-inside name most t (Whole y r) x rest e = go (nat_le r.at (t.at + most)) refl e
  where
    go : (b : Bool) → nat_le r.at (t.at + most) ≡ b → (if b then Whole y r else Refused name (t.at + most)) ≡ Whole x rest → (Whole y r ≡ Whole x rest) × (rest.at ≤ t.at + most)
    go true f g = (g, subst (λ (s : Input). s.at ≤ t.at + most) (same-rest y x r rest g) (leb-true r.at (t.at + most) f))
    go false f g = cc
at_most-inside name most t (Refused n at) x rest e = go _ e
  where
    go : (b : Bool) → (if b then Refused n at else Refused name (t.at + most)) ≡ Whole x rest → (Refused n at ≡ Whole x rest) × (rest.at ≤ t.at + most)
    go true f = cc
    go false f = cc
at_most-inside name most t (Cut o) x rest e = go _ e
  where
    go : (b : Bool) → (if b then Cut o else Refused name (t.at + most)) ≡ Whole x rest → (Cut o ≡ Whole x rest) × (rest.at ≤ t.at + most)
    go true f = cc
    go false f = cc

-- ---- atoms

abbrev size_or : ℕ → Body → ℕ
size_or d (Closes size) = size
size_or d b = d

module _ (limits : Limits) where
  quoted-fits : (bytes : List ℕ) (size : ℕ) → quoted bytes ≡ Closes size → size ≤ limits.token → IsTextOf limits.token (take (size - 2) bytes)
  unfolding quoted bar_at
  quoted-fits bytes size e few = go (drop (length inside) bytes) e
    where
      inside : List ℕ
      inside = take_while is_quotable bytes

      fits : size ≡ suc (1 + length inside) → IsTextOf limits.token (take (size - 2) bytes)
      fits same =
          let n : size - 2 ≡ prefix_len is_quotable bytes = omega (arith, length-prefix_len is_quotable bytes) in
          subst (IsTextOf limits.token) (sym (ap (λ k. take k bytes) n)) (all-small inside (all-text inside (run-passes is_quotable bytes)), omega arith)

      by : (b : Bool) → (if b then Closes (suc (1 + length inside)) else Stops (1 + length inside)) ≡ Closes size → IsTextOf limits.token (take (size - 2) bytes)
      by true f = fits (sym (ap (size_or size) f))
      by false f = cc

      go : (rest : List ℕ) → bar_at (1 + length inside) rest ≡ Closes size → IsTextOf limits.token (take (size - 2) bytes)
      go [] f = cc
      go (x ∷ xs) f = by (is_one_of (codes "|") x) f

  string-fits : (bytes : List ℕ) (size : ℕ) → string false 1 bytes ≡ Closes size → size ≤ limits.token → IsTextOf limits.token (take (size - 2) bytes)
  string-fits bytes size e few =
      let holds = subst (StringHolds 1 bytes) e (string-holds false 1 bytes) in
      (all-small _ (all-fewer is_text (size - 2) (size - 1) bytes (omega arith) holds.1), omega (arith, take-few (size - 2) bytes))

  -- a string literal that the end closes
  pub string-open : (bytes : List ℕ) (c : Bool) (size : ℕ) → string false 1 bytes ≡ RunsOut c → size ≤ limits.token → IsTextOf limits.token (take (size - 2) bytes)
  string-open bytes c size e few =
      let holds = subst (StringHolds 1 bytes) e (string-holds false 1 bytes) in
      (all-small _ (all-front is_text (size - 2) bytes holds), omega (arith, take-few (size - 2) bytes))

  atom-fits : (c : Class) (t : Input) (s : Sexp) (rest : Input) → atom limits c t ≡ Whole s rest → TextsFit limits s
  unfolding atom word word_before delimited delimited_atom advance
  atom-fits Quote t s rest e =
      let inner = at_most-inside TokenLong limits.token t (delimited kind.String t (string false 1 (drop 1 t.bytes))) s rest e in go (string false 1 (drop 1 t.bytes)) refl inner.0 inner.1
    where
      go : (b : Body) → string false 1 (drop 1 t.bytes) ≡ b → delimited kind.String t b ≡ Whole s rest → rest.at ≤ t.at + limits.token → TextsFit limits s
      go (Closes size) q f low =
          let at = ap (λ (i : Input). i.at) (same-rest (delimited_atom kind.String t size) s (advance size t) rest f) in
          subst (TextsFit limits) (same-value (delimited_atom kind.String t size) s _ rest f) (string-fits (drop 1 t.bytes) size q (omega arith))
      go (Stops size) q f low = cc
      go (RunsOut true) q f low = cc
      go (RunsOut false) q f low = cc
  atom-fits Bar t s rest e =
      let inner = at_most-inside TokenLong limits.token t (delimited kind.Symbol t (quoted (drop 1 t.bytes))) s rest e in go (quoted (drop 1 t.bytes)) refl inner.0 inner.1
    where
      go : (b : Body) → quoted (drop 1 t.bytes) ≡ b → delimited kind.Symbol t b ≡ Whole s rest → rest.at ≤ t.at + limits.token → TextsFit limits s
      go (Closes size) q f low =
          let at = ap (λ (i : Input). i.at) (same-rest (delimited_atom kind.Symbol t size) s (advance size t) rest f) in
          subst (TextsFit limits) (same-value (delimited_atom kind.Symbol t size) s _ rest f) (quoted-fits (drop 1 t.bytes) size q (omega arith))
      go (Stops size) q f low = cc
      go (RunsOut true) q f low = cc
      go (RunsOut false) q f low = cc
  atom-fits Word t s rest e =
      let inner = at_most-inside TokenLong limits.token t (word t) s rest e in go (drop (length text) t.bytes) inner.0 inner.1
    where
      text : List ℕ
      text = take_while is_word t.bytes

      go : (behind : List ℕ) → word_before t text behind ≡ Whole s rest → rest.at ≤ t.at + limits.token → TextsFit limits s
      go [] f low = cc
      go (x ∷ xs) f low =
          let at = ap (λ (i : Input). i.at) (same-rest (Atom (kind_of text) text (span t (length text))) s (advance (length text) t) rest f) in
          subst (TextsFit limits) (same-value (Atom (kind_of text) text (span t (length text))) s _ rest f) (words-small text (run-passes is_word t.bytes), omega arith)
  atom-fits Space t s rest e = cc
  atom-fits Comment t s rest e = cc
  atom-fits Open t s rest e = cc
  atom-fits Close t s rest e = cc
  atom-fits Other t s rest e = cc

  -- ---- lists

  abbrev ListFits : Option (Input → Reading Sexp) → Type 0
  ListFits None = Unit {0}
  ListFits (Some list) = (t : Input) (s : Sexp) (rest : Input) → list t ≡ Whole s rest → TextsFit limits s

  abbrev OthersFit : Option (Input → Reading Sexps) → Type 0
  OthersFit None = Unit {0}
  OthersFit (Some others) = (t : Input) (ss : Sexps) (rest : Input) → others t ≡ Whole ss rest → AllTextsFit limits ss

  child-fits : (m : Reading Sexp) (others : Input → Reading Sexps) (ss : Sexps) (rest : Input) → ((s : Sexp) (r : Input) → m ≡ Whole s r → TextsFit limits s) → OthersFit (Some others) →
      (m >>= and_others others) ≡ Whole ss rest → AllTextsFit limits ss
  unfolding and_others prepend
  child-fits m others ss rest first more e =
      let a = bind-whole m (and_others others) ss rest e in
      let b = bind-whole (others a.1) (prepend a.0) ss rest a.3 in
      subst (AllTextsFit limits) (same-value (Next a.0 b.0) ss b.1 rest b.3) (first a.0 a.1 a.2, more a.1 b.0 b.1 b.2)

  turn-fits : (inner : Option (Input → Reading Sexp)) (others : Option (Input → Reading Sexps)) (t : Input) (bytes : List ℕ) (c : Class) (ss : Sexps) (rest : Input) → ListFits inner → OthersFit others →
      turn limits inner others t bytes c ≡ Whole ss rest → AllTextsFit limits ss
  unfolding turn
  turn-fits inner others t [] c ss rest i o e = cc
  turn-fits None None t (x ∷ xs) Close ss rest i o e = subst (AllTextsFit limits) (same-value NoSexp ss _ rest e) tt
  turn-fits None (Some others) t (x ∷ xs) Close ss rest i o e = subst (AllTextsFit limits) (same-value NoSexp ss _ rest e) tt
  turn-fits (Some list) None t (x ∷ xs) Close ss rest i o e = subst (AllTextsFit limits) (same-value NoSexp ss _ rest e) tt
  turn-fits (Some list) (Some others) t (x ∷ xs) Close ss rest i o e = subst (AllTextsFit limits) (same-value NoSexp ss _ rest e) tt
  turn-fits None None t (x ∷ xs) Other ss rest i o e = cc
  turn-fits None (Some others) t (x ∷ xs) Other ss rest i o e = cc
  turn-fits (Some list) None t (x ∷ xs) Other ss rest i o e = cc
  turn-fits (Some list) (Some others) t (x ∷ xs) Other ss rest i o e = cc
  turn-fits None others t (x ∷ xs) Open ss rest i o e = cc
  turn-fits (Some list) None t (x ∷ xs) Open ss rest i o e = cc
  turn-fits (Some list) (Some others) t (x ∷ xs) Open ss rest i o e = child-fits (list t) others ss rest (i t) o e
  turn-fits None None t (x ∷ xs) c ss rest i o e = cc
  turn-fits (Some list) None t (x ∷ xs) c ss rest i o e = cc
  turn-fits None (Some others) t (x ∷ xs) c ss rest i o e = child-fits (atom limits c t) others ss rest (atom-fits c t) o e
  turn-fits (Some list) (Some others) t (x ∷ xs) c ss rest i o e = child-fits (atom limits c t) others ss rest (atom-fits c t) o e

  children-fit : (inner : Option (Input → Reading Sexp)) (more : ℕ) → ListFits inner → OthersFit (Some (children limits inner more))
  unfolding children
  children-fit inner zero i t ss rest e = let u = skip t in turn-fits inner None u u.bytes (front u.bytes) ss rest i tt e
  children-fit inner (suc more) i t ss rest e = let u = skip t in turn-fits inner (Some (children limits inner more)) u u.bytes (front u.bytes) ss rest i (children-fit inner more i) e

  list-fits : (deeper : ℕ) → ListFits (lists limits deeper) → ListFits (lists limits (suc deeper))
  unfolding lists listed
  list-fits deeper h t s rest e =
      let a = bind-whole (children limits (lists limits deeper) limits.width (advance 1 t)) (listed t) s rest e in
      subst (TextsFit limits) (same-value (Listed a.0 (record { from = t.at; to = a.1.at })) s a.1 rest a.3) (children-fit (lists limits deeper) limits.width h (advance 1 t) a.0 a.1 a.2)

  no-list : ListFits (lists limits zero)
  unfolding lists
  no-list = tt

  lists-fit : (deeper : ℕ) → ListFits (lists limits deeper)
  lists-fit zero = no-list
  lists-fit (suc deeper) = list-fits deeper (lists-fit deeper)

  opened-fits : (o : Option (Input → Reading Sexp)) (t : Input) (s : Sexp) (rest : Input) → ListFits o → opened o t ≡ Whole s rest → TextsFit limits s
  unfolding opened
  opened-fits None t s rest h e = cc
  opened-fits (Some list) t s rest h e = h t s rest e

  sexp-fits : (c : Class) (t : Input) (s : Sexp) (rest : Input) → sexp limits c t ≡ Whole s rest → TextsFit limits s
  unfolding sexp
  sexp-fits Open t s rest e = opened-fits (lists limits limits.nesting) t s rest (lists-fit limits.nesting) e
  sexp-fits c t s rest e = atom-fits c t s rest e

  -- The texts of a command that is whole fit.
  pub command-fits : (bytes : List ℕ) (s : Sexp) (rest : Input) → command limits bytes ≡ Whole s rest → TextsFit limits s
  unfolding command
  command-fits bytes s rest e =
      let t : Input = record { at = 0; bytes = bytes } in
      sexp-fits (front bytes) t s rest (at_most-inside CommandLong limits.command t (sexp limits (front bytes) t) s rest e).0
