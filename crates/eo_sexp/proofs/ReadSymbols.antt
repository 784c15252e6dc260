-- The symbols of a command that was read can be printed again.
use Rattle.std.proofs.Common.{◌≡◌, refl, ℕ, zero, suc, ◌+◌, ◌-◌, ◌≤◌, Bool, true, false, List, [], ◌∷◌, length, length-append, take, drop, ap, sym, ◌∙◌, arith, subst}
use Rattle.std.specs.Prelude.{cond, if◌then◌else◌, take_while, codes, ◌&&◌, nat_le, Option, Some, None}
use Rattle.std.specs.List.{prefix_len, list_all}
use Rattle.std.proofs.lemmas.Bool.{and_parts, leb-true}
use Rattle.std.proofs.lemmas.List.Folds.{length-prefix_len}
use Rattle.eo_base.specs.declared.FaultName.{FaultName}
use Rattle.eo_base.specs.declared.FaultName.TheVariants.{TokenLong, CommandLong}
use Rattle.eo_base.specs.Limits.{Limits}
use Rattle.eo_sexp.specs.AtomKind.{AtomKind}
use Rattle.eo_sexp.specs.AtomKind as kind
use Rattle.eo_sexp.specs.Sexp.{Sexp, Atom, Listed, Sexps, NoSexp, Next}
use Rattle.eo_sexp.specs.Lexicon.{Class, Space, Comment, Open, Close, Quote, Bar, Word, Other, Input, advance, skip, Body, Closes, Stops, RunsOut, string, bar_at, quoted, is_space, is_text, is_quotable, is_word, is_one_of, kind_of}
use Rattle.eo_sexp.specs.Commands.{Reading, Whole, Refused, Cut, ◌>>=◌, at_most, span, delimited_atom, delimited, word_before, word, atom, front, prepend, and_others, listed, opened, turn, children, lists, sexp, command}
use Rattle.eo_sexp.specs.Printing.{same_kind, is_word_of, in_bars, printed_atom}
use Rattle.eo_sexp.specs.ReadNames.{SymbolFits, SymbolsFit, AllSymbolsFit}
use Rattle.eo_sexp.proofs.ByteTests.{agree_below, agree_at, implies, implied}
use Rattle.eo_sexp.proofs.PrintedAtoms.{word-small}

-- ---- readings

value_or : {A : Type 0} → A → Reading A → A
value_or d (Whole x rest) = x
value_or d r = d

rest_or : {A : Type 0} → Input → Reading A → Input
rest_or d (Whole x rest) = rest
rest_or d r = d

same-value : {A : Type 0} (x y : A) (r s : Input) → Whole x r ≡ Whole y s → x ≡ y
unfolding value_or
same-value x y r s e = ap (value_or x) e

same-rest : {A : Type 0} (x y : A) (r s : Input) → Whole x r ≡ Whole y s → r ≡ s
unfolding rest_or
same-rest x y r s e = ap (rest_or r) e

bind-whole : {A B : Type 0} (m : Reading A) (f : A → Input → Reading B) (y : B) (rest : Input) → (m >>= f) ≡ Whole y rest → (x : A) × (r : Input) × (m ≡ Whole x r) × (f x r ≡ Whole y rest)
unfolding ◌>>=◌
bind-whole (Whole x r) f y rest e = (x, r, refl, e)
bind-whole (Refused name at) f y rest e = cc
bind-whole (Cut o) f y rest e = cc

at_most-inside : {A : Type 0} (name : FaultName) (most : ℕ) (t : Input) (m : Reading A) (x : A) (rest : Input) → at_most name most t m ≡ Whole x rest → (m ≡ Whole x rest) × (rest.at ≤ t.at + most)
unfolding at_most
at_most-inside name most t (Whole y r) x rest e = go (nat_le r.at (t.at + most)) refl e
  where
    go : (b : Bool) → nat_le r.at (t.at + most) ≡ b → (if b then Whole y r else Refused name (t.at + most)) ≡ Whole x rest → (Whole y r ≡ Whole x rest) × (rest.at ≤ t.at + most)
    go true f g = (g, subst (λ (s : Input). s.at ≤ t.at + most) (same-rest y x r rest g) (leb-true r.at (t.at + most) f))
    go false f g = cc
at_most-inside name most t (Refused n at) x rest e = go _ e
  where
    go : (b : Bool) → (if b then Refused n at else Refused name (t.at + most)) ≡ Whole x rest → (Refused n at ≡ Whole x rest) × (rest.at ≤ t.at + most)
    go true f = cc
    go false f = cc
at_most-inside name most t (Cut o) x rest e = go _ e
  where
    go : (b : Bool) → (if b then Cut o else Refused name (t.at + most)) ≡ Whole x rest → (Cut o ≡ Whole x rest) × (rest.at ≤ t.at + most)
    go true f = cc
    go false f = cc

-- ---- runs

pub run-passes : (p : ℕ → Bool) (xs : List ℕ) → list_all p (take_while p xs) ≡ true
run-passes p [] = refl
run-passes p (x ∷ xs) = go (p x) refl (run-passes p xs)
  where
    go : (b : Bool) → p x ≡ b → list_all p (take (prefix_len p xs) xs) ≡ true → list_all p (take (cond b (1 + prefix_len p xs) 0) (x ∷ xs)) ≡ true
    go true e h = let one : 1 + prefix_len p xs ≡ suc (prefix_len p xs) = omega arith in ap (λ n. list_all p (take n (x ∷ xs))) one ∙ ap (λ b. b && list_all p (take (prefix_len p xs) xs)) e ∙ h
    go false e h = refl

pub word-quotable : (x : ℕ) → is_word x ≡ true → is_quotable x ≡ true
unfolding agree_below implies is_word is_quotable is_text is_space
word-quotable x e = implied (is_word x) (is_quotable x) (agree_at (λ y. implies (is_word y) (is_quotable y)) (λ y. true) 256 refl x (word-small x e)) e

pub words-quotable : (xs : List ℕ) → list_all is_word xs ≡ true → list_all is_quotable xs ≡ true
words-quotable [] e = refl
words-quotable (x ∷ xs) e =
    let parts = and_parts (is_word x) (list_all is_word xs) e in
    ap (λ b. b && list_all is_quotable xs) (word-quotable x parts.0) ∙ words-quotable xs parts.1

-- ---- atoms

abbrev size_or : ℕ → Body → ℕ
size_or d (Closes size) = size
size_or d b = d

-- in bars at most
symbol-size : (text : List ℕ) → length (printed_atom kind.Symbol text) ≤ 2 + length text
unfolding printed_atom
symbol-size text = go (is_word_of kind.Symbol text)
  where
    go : (b : Bool) → length (if b then text else in_bars text) ≤ 2 + length text
    go true = omega arith
    go false = omega (arith, length-append text (codes "|"))

module _ (limits : Limits) (two : 2 ≤ limits.token) where
  pub word-fits : (text : List ℕ) → list_all is_word text ≡ true → length text ≤ limits.token → (k : AtomKind) → kind_of text ≡ k → SymbolFits limits k text
  unfolding printed_atom
  word-fits [] all few kind.Symbol e = (refl, omega (arith, two))
  word-fits (x ∷ xs) all few kind.Symbol e =
      let w : is_word_of kind.Symbol (x ∷ xs) ≡ true = ap (λ b. b && same_kind (kind_of (x ∷ xs)) kind.Symbol) all ∙ ap (λ k. same_kind k kind.Symbol) e in
      (words-quotable (x ∷ xs) all, subst (λ (b : Bool). length (if b then x ∷ xs else in_bars (x ∷ xs)) ≤ limits.token) (sym w) few)
  word-fits text all few kind.Keyword e = tt
  word-fits text all few kind.Literal e = tt
  word-fits text all few kind.String e = tt

  quoted-fits : (bytes : List ℕ) (size : ℕ) → quoted bytes ≡ Closes size → size ≤ limits.token → SymbolFits limits kind.Symbol (take (size - 2) bytes)
  unfolding quoted bar_at
  quoted-fits bytes size e few = go (drop (length inside) bytes) e
    where
      inside : List ℕ
      inside = take_while is_quotable bytes

      fits : size ≡ suc (1 + length inside) → SymbolFits limits kind.Symbol (take (size - 2) bytes)
      fits same =
          let n : size - 2 ≡ prefix_len is_quotable bytes = omega (arith, length-prefix_len is_quotable bytes) in
          subst (λ (xs : List ℕ). SymbolFits limits kind.Symbol xs) (sym (ap (λ k. take k bytes) n)) (run-passes is_quotable bytes, omega (arith, symbol-size inside))

      by : (b : Bool) → (if b then Closes (suc (1 + length inside)) else Stops (1 + length inside)) ≡ Closes size → SymbolFits limits kind.Symbol (take (size - 2) bytes)
      by true f = fits (sym (ap (size_or size) f))
      by false f = cc

      go : (rest : List ℕ) → bar_at (1 + length inside) rest ≡ Closes size → SymbolFits limits kind.Symbol (take (size - 2) bytes)
      go [] f = cc
      go (x ∷ xs) f = by (is_one_of (codes "|") x) f

  atom-fits : (c : Class) (t : Input) (s : Sexp) (rest : Input) → atom limits c t ≡ Whole s rest → SymbolsFit limits s
  unfolding atom word word_before delimited delimited_atom advance
  atom-fits Quote t s rest e =
      let inner = at_most-inside TokenLong limits.token t (delimited kind.String t (string false 1 (drop 1 t.bytes))) s rest e in go (string false 1 (drop 1 t.bytes)) inner.0
    where
      go : (b : Body) → delimited kind.String t b ≡ Whole s rest → SymbolsFit limits s
      go (Closes size) f = subst (SymbolsFit limits) (same-value (delimited_atom kind.String t size) s _ rest f) tt
      go (Stops size) f = cc
      go (RunsOut true) f = cc
      go (RunsOut false) f = cc
  atom-fits Bar t s rest e =
      let inner = at_most-inside TokenLong limits.token t (delimited kind.Symbol t (quoted (drop 1 t.bytes))) s rest e in go (quoted (drop 1 t.bytes)) refl inner.0 inner.1
    where
      go : (b : Body) → quoted (drop 1 t.bytes) ≡ b → delimited kind.Symbol t b ≡ Whole s rest → rest.at ≤ t.at + limits.token → SymbolsFit limits s
      go (Closes size) q f low =
          let at = ap (λ (i : Input). i.at) (same-rest (delimited_atom kind.Symbol t size) s (advance size t) rest f) in
          subst (SymbolsFit limits) (same-value (delimited_atom kind.Symbol t size) s _ rest f) (quoted-fits (drop 1 t.bytes) size q (omega arith))
      go (Stops size) q f low = cc
      go (RunsOut true) q f low = cc
      go (RunsOut false) q f low = cc
  atom-fits Word t s rest e =
      let inner = at_most-inside TokenLong limits.token t (word t) s rest e in go (drop (length text) t.bytes) inner.0 inner.1
    where
      text : List ℕ
      text = take_while is_word t.bytes

      go : (behind : List ℕ) → word_before t text behind ≡ Whole s rest → rest.at ≤ t.at + limits.token → SymbolsFit limits s
      go [] f low = cc
      go (x ∷ xs) f low =
          let at = ap (λ (i : Input). i.at) (same-rest (Atom (kind_of text) text (span t (length text))) s (advance (length text) t) rest f) in
          subst (SymbolsFit limits) (same-value (Atom (kind_of text) text (span t (length text))) s _ rest f) (word-fits text (run-passes is_word t.bytes) (omega arith) (kind_of text) refl)
  atom-fits Space t s rest e = cc
  atom-fits Comment t s rest e = cc
  atom-fits Open t s rest e = cc
  atom-fits Close t s rest e = cc
  atom-fits Other t s rest e = cc

  -- ---- lists

  abbrev ListFits : Option (Input → Reading Sexp) → Type 0
  ListFits None = Unit {0}
  ListFits (Some list) = (t : Input) (s : Sexp) (rest : Input) → list t ≡ Whole s rest → SymbolsFit limits s

  abbrev OthersFit : Option (Input → Reading Sexps) → Type 0
  OthersFit None = Unit {0}
  OthersFit (Some others) = (t : Input) (ss : Sexps) (rest : Input) → others t ≡ Whole ss rest → AllSymbolsFit limits ss

  child-fits : (m : Reading Sexp) (others : Input → Reading Sexps) (ss : Sexps) (rest : Input) → ((s : Sexp) (r : Input) → m ≡ Whole s r → SymbolsFit limits s) → OthersFit (Some others) →
      (m >>= and_others others) ≡ Whole ss rest → AllSymbolsFit limits ss
  unfolding and_others prepend
  child-fits m others ss rest first more e =
      let a = bind-whole m (and_others others) ss rest e in
      let b = bind-whole (others a.1) (prepend a.0) ss rest a.3 in
      subst (AllSymbolsFit limits) (same-value (Next a.0 b.0) ss b.1 rest b.3) (first a.0 a.1 a.2, more a.1 b.0 b.1 b.2)

  turn-fits : (inner : Option (Input → Reading Sexp)) (others : Option (Input → Reading Sexps)) (t : Input) (bytes : List ℕ) (c : Class) (ss : Sexps) (rest : Input) → ListFits inner → OthersFit others →
      turn limits inner others t bytes c ≡ Whole ss rest → AllSymbolsFit limits ss
  unfolding turn
  turn-fits inner others t [] c ss rest i o e = cc
  turn-fits None None t (x ∷ xs) Close ss rest i o e = subst (AllSymbolsFit limits) (same-value NoSexp ss _ rest e) tt
  turn-fits None (Some others) t (x ∷ xs) Close ss rest i o e = subst (AllSymbolsFit limits) (same-value NoSexp ss _ rest e) tt
  turn-fits (Some list) None t (x ∷ xs) Close ss rest i o e = subst (AllSymbolsFit limits) (same-value NoSexp ss _ rest e) tt
  turn-fits (Some list) (Some others) t (x ∷ xs) Close ss rest i o e = subst (AllSymbolsFit limits) (same-value NoSexp ss _ rest e) tt
  turn-fits None None t (x ∷ xs) Other ss rest i o e = cc
  turn-fits None (Some others) t (x ∷ xs) Other ss rest i o e = cc
  turn-fits (Some list) None t (x ∷ xs) Other ss rest i o e = cc
  turn-fits (Some list) (Some others) t (x ∷ xs) Other ss rest i o e = cc
  turn-fits None others t (x ∷ xs) Open ss rest i o e = cc
  turn-fits (Some list) None t (x ∷ xs) Open ss rest i o e = cc
  turn-fits (Some list) (Some others) t (x ∷ xs) Open ss rest i o e = child-fits (list t) others ss rest (i t) o e
  turn-fits None None t (x ∷ xs) c ss rest i o e = cc
  turn-fits (Some list) None t (x ∷ xs) c ss rest i o e = cc
  turn-fits None (Some others) t (x ∷ xs) c ss rest i o e = child-fits (atom limits c t) others ss rest (atom-fits c t) o e
  turn-fits (Some list) (Some others) t (x ∷ xs) c ss rest i o e = child-fits (atom limits c t) others ss rest (atom-fits c t) o e

  children-fit : (inner : Option (Input → Reading Sexp)) (more : ℕ) → ListFits inner → OthersFit (Some (children limits inner more))
  unfolding children
  children-fit inner zero i t ss rest e = let u = skip t in turn-fits inner None u u.bytes (front u.bytes) ss rest i tt e
  children-fit inner (suc more) i t ss rest e = let u = skip t in turn-fits inner (Some (children limits inner more)) u u.bytes (front u.bytes) ss rest i (children-fit inner more i) e

  list-fits : (deeper : ℕ) → ListFits (lists limits deeper) → ListFits (lists limits (suc deeper))
  unfolding lists listed
  list-fits deeper h t s rest e =
      let a = bind-whole (children limits (lists limits deeper) limits.width (advance 1 t)) (listed t) s rest e in
      subst (SymbolsFit limits) (same-value (Listed a.0 (record { from = t.at; to = a.1.at })) s a.1 rest a.3) (children-fit (lists limits deeper) limits.width h (advance 1 t) a.0 a.1 a.2)

  no-list : ListFits (lists limits zero)
  unfolding lists
  no-list = tt

  lists-fit : (deeper : ℕ) → ListFits (lists limits deeper)
  lists-fit zero = no-list
  lists-fit (suc deeper) = list-fits deeper (lists-fit deeper)

  opened-fits : (o : Option (Input → Reading Sexp)) (t : Input) (s : Sexp) (rest : Input) → ListFits o → opened o t ≡ Whole s rest → SymbolsFit limits s
  unfolding opened
  opened-fits None t s rest h e = cc
  opened-fits (Some list) t s rest h e = h t s rest e

  sexp-fits : (c : Class) (t : Input) (s : Sexp) (rest : Input) → sexp limits c t ≡ Whole s rest → SymbolsFit limits s
  unfolding sexp
  sexp-fits Open t s rest e = opened-fits (lists limits limits.nesting) t s rest (lists-fit limits.nesting) e
  sexp-fits c t s rest e = atom-fits c t s rest e

  -- The symbols of a command that is whole can be printed again.
  pub command-fits : (bytes : List ℕ) (s : Sexp) (rest : Input) → command limits bytes ≡ Whole s rest → SymbolsFit limits s
  unfolding command
  command-fits bytes s rest e =
      let t : Input = record { at = 0; bytes = bytes } in
      sexp-fits (front bytes) t s rest (at_most-inside CommandLong limits.command t (sexp limits (front bytes) t) s rest e).0
