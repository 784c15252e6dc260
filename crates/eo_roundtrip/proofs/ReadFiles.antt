-- The text of each atom of a file has characters alone, and no more than a token.
use Rattle.std.proofs.Common.{◌≡◌, refl, ℕ, zero, suc, ◌+◌, ◌≤◌, Bool, true, false, List, [], ◌∷◌, length, take, drop, ap, arith, subst}
use Rattle.std.specs.Prelude.{if◌then◌else◌, take_while, codes, nat_le, bytes_eq, Option, Some, None}
use Rattle.std.proofs.lemmas.Bool.{leb-true}
use Rattle.std.proofs.lemmas.List.Folds.{length-prefix_len}
use Rattle.std.proofs.lemmas.List.Sums.{prefix_len-le-length}
use Rattle.eo_base.specs.declared.FaultName.{FaultName}
use Rattle.eo_base.specs.declared.FaultName.TheVariants.{TokenLong, CommandLong}
use Rattle.eo_base.specs.Limits.{Limits}
use Rattle.eo_sexp.specs.AtomKind as kind
use Rattle.eo_sexp.specs.Spot.{Spot}
use Rattle.eo_sexp.specs.Sexp.{Sexp, Atom}
use Rattle.eo_sexp.specs.Lexicon.{Class, Space, Comment, Open, Close, Quote, Bar, Word, Other, Input, advance, Body, Closes, Stops, RunsOut, string, bar_at, quoted, is_quotable, is_word, is_one_of, class, kind_of}
use Rattle.eo_sexp.specs.Commands.{Reading, Whole, Refused, Cut, ◌>>=◌, at_most, span, delimited_atom, delimited, word_before, word, atom, front, listed, opened, children, lists, sexp, command}
use Rattle.eo_sexp.specs.Texts.{Phase, Start, AfterUnsat, InPair, AfterPair, Plain, Next, Command, End, Fault, known, last_atom, decided, from_token, from_front, end_of, is_extra, answer, so_far, strip, next_from, placed, spot_after, Reads, read_next, reads_from, reads_all, reads_file}
use Rattle.eo_sexp.specs.ReadNames.{AllCommands}
use Rattle.eo_sexp.proofs.ReadSymbols.{run-passes}
use Rattle.eo_roundtrip.proofs.Texts.{TextsFit}
use Rattle.eo_roundtrip.proofs.ReadTexts.{words-small, string-open, command-fits}

-- ---- what the end makes whole

cut_or : {A : Type 0} → A → Reading A → A
cut_or d (Cut (Some x)) = x
cut_or d r = d

same-cut : {A : Type 0} (x y : A) → Cut (Some x) ≡ Cut (Some y) → x ≡ y
unfolding cut_or
same-cut x y e = ap (cut_or x) e

at_most-cut : {A : Type 0} (name : FaultName) (most : ℕ) (t : Input) (m : Reading A) (x : A) → at_most name most t m ≡ Cut (Some x) → (m ≡ Cut (Some x)) × (length t.bytes ≤ most)
unfolding at_most
at_most-cut name most t (Whole y r) x e = go _ e
  where
    go : (b : Bool) → (if b then Whole y r else Refused name (t.at + most)) ≡ Cut (Some x) → (Whole y r ≡ Cut (Some x)) × (length t.bytes ≤ most)
    go true f = cc
    go false f = cc
at_most-cut name most t (Refused n at) x e = go _ e
  where
    go : (b : Bool) → (if b then Refused n at else Refused name (t.at + most)) ≡ Cut (Some x) → (Refused n at ≡ Cut (Some x)) × (length t.bytes ≤ most)
    go true f = cc
    go false f = cc
at_most-cut name most t (Cut o) x e = go (nat_le (length t.bytes) most) refl e
  where
    go : (b : Bool) → nat_le (length t.bytes) most ≡ b → (if b then Cut o else Refused name (t.at + most)) ≡ Cut (Some x) → (Cut o ≡ Cut (Some x)) × (length t.bytes ≤ most)
    go true f g = (g, leb-true (length t.bytes) most f)
    go false f g = cc

-- a quoted symbol that is not closed stays open at the end
open-symbol : (bytes : List ℕ) → quoted bytes ≡ RunsOut true → ⊥
unfolding quoted bar_at
open-symbol bytes e = go (drop (length inside) bytes) e
  where
    inside : List ℕ
    inside = take_while is_quotable bytes

    by : (b : Bool) → (if b then Closes (suc (1 + length inside)) else Stops (1 + length inside)) ≡ RunsOut true → ⊥
    by true f = cc
    by false f = cc

    go : (rest : List ℕ) → bar_at (1 + length inside) rest ≡ RunsOut true → ⊥
    go [] f = cc
    go (x ∷ xs) f = by (is_one_of (codes "|") x) f

-- a list is not made whole by the end
list-open : {A B : Type 0} (m : Reading A) (f : A → Input → Reading B) (y : B) → ((x : A) (r : Input) → f x r ≡ Cut (Some y) → ⊥) → (m >>= f) ≡ Cut (Some y) → ⊥
unfolding ◌>>=◌
list-open (Whole x r) f y h e = h x r e
list-open (Refused name at) f y h e = cc
list-open (Cut o) f y h e = cc

module _ (limits : Limits) where
  atom-cut : (c : Class) (t : Input) (s : Sexp) → atom limits c t ≡ Cut (Some s) → TextsFit limits s
  unfolding atom word word_before delimited delimited_atom
  atom-cut Quote t s e =
      let inner = at_most-cut TokenLong limits.token t (delimited kind.String t (string false 1 (drop 1 t.bytes))) s e in go (string false 1 (drop 1 t.bytes)) refl inner.0 inner.1
    where
      go : (b : Body) → string false 1 (drop 1 t.bytes) ≡ b → delimited kind.String t b ≡ Cut (Some s) → length t.bytes ≤ limits.token → TextsFit limits s
      go (Closes size) q f few = cc
      go (Stops size) q f few = cc
      go (RunsOut true) q f few = subst (TextsFit limits) (same-cut (delimited_atom kind.String t (length t.bytes)) s f) (string-open limits (drop 1 t.bytes) true (length t.bytes) q few)
      go (RunsOut false) q f few = cc
  atom-cut Bar t s e = go (quoted (drop 1 t.bytes)) refl (at_most-cut TokenLong limits.token t (delimited kind.Symbol t (quoted (drop 1 t.bytes))) s e).0
    where
      go : (b : Body) → quoted (drop 1 t.bytes) ≡ b → delimited kind.Symbol t b ≡ Cut (Some s) → TextsFit limits s
      go (Closes size) q f = cc
      go (Stops size) q f = cc
      go (RunsOut true) q f = absurd (open-symbol (drop 1 t.bytes) q)
      go (RunsOut false) q f = cc
  atom-cut Word t s e = let inner = at_most-cut TokenLong limits.token t (word t) s e in go (drop (length text) t.bytes) inner.0 inner.1
    where
      text : List ℕ
      text = take_while is_word t.bytes

      go : (rest : List ℕ) → word_before t text rest ≡ Cut (Some s) → length t.bytes ≤ limits.token → TextsFit limits s
      go [] f few =
          subst (TextsFit limits) (same-cut (Atom (kind_of text) text (span t (length text))) s f)
          (words-small text (run-passes is_word t.bytes), omega (arith, few, length-prefix_len is_word t.bytes, prefix_len-le-length is_word t.bytes))
      go (x ∷ xs) f few = cc
  atom-cut Space t s e = cc
  atom-cut Comment t s e = cc
  atom-cut Open t s e = cc
  atom-cut Close t s e = cc
  atom-cut Other t s e = cc

  abbrev StaysOpen : Option (Input → Reading Sexp) → Type 0
  StaysOpen None = Unit {0}
  StaysOpen (Some list) = (t : Input) (s : Sexp) → list t ≡ Cut (Some s) → ⊥

  lists-open : (deeper : ℕ) → StaysOpen (lists limits deeper)
  unfolding lists listed
  lists-open zero = tt
  lists-open (suc deeper) = λ t s e. list-open (children limits (lists limits deeper) limits.width (advance 1 t)) (listed t) s (λ x r f. cc) e

  opened-open : (o : Option (Input → Reading Sexp)) (t : Input) (s : Sexp) → StaysOpen o → opened o t ≡ Cut (Some s) → ⊥
  unfolding opened
  opened-open None t s h e = cc
  opened-open (Some list) t s h e = h t s e

  sexp-cut : (c : Class) (t : Input) (s : Sexp) → sexp limits c t ≡ Cut (Some s) → TextsFit limits s
  unfolding sexp
  sexp-cut Open t s e = absurd (opened-open (lists limits limits.nesting) t s (lists-open limits.nesting) e)
  sexp-cut c t s e = atom-cut c t s e

  command-cut : (bytes : List ℕ) (s : Sexp) → command limits bytes ≡ Cut (Some s) → TextsFit limits s
  unfolding command
  command-cut bytes s e =
      let t : Input = record { at = 0; bytes = bytes } in
      sexp-cut (front bytes) t s (at_most-cut CommandLong limits.command t (sexp limits (front bytes) t) s e).0

  -- ---- what comes next

  abbrev NextFits : Next → Type 0
  NextFits (Command s start size phase) = TextsFit limits s
  NextFits End = Unit {0}
  NextFits (Fault name at) = Unit {0}

  last-fits : (phase : Phase) (s : Sexp) (t : Input) → TextsFit limits s → NextFits (last_atom phase s t)
  unfolding last_atom
  last-fits Start s t h = go (bytes_eq t.bytes (codes "unsat"))
    where
      go : (b : Bool) → NextFits (if b then End else Command s t.at (length t.bytes) Plain)
      go true = tt
      go false = h
  last-fits AfterUnsat s t h = h
  last-fits InPair s t h = h
  last-fits AfterPair s t h = h
  last-fits Plain s t h = h

  known-fits : (closes : Bool) (count : ℕ) (phase : Phase) (t : Input) (r : Reading Sexp) → command limits t.bytes ≡ r → NextFits (decided closes count (known phase t r))
  unfolding decided known
  known-fits closes count phase t (Whole s rest) e = command-fits limits t.bytes s rest e
  known-fits closes count phase t (Refused name at) e = tt
  known-fits true count phase t (Cut (Some s)) e = last-fits phase s t (command-cut t.bytes s e)
  known-fits false count phase t (Cut (Some s)) e = tt
  known-fits true count phase t (Cut None) e = tt
  known-fits false count phase t (Cut None) e = tt

  end-fits : (phase : Phase) (at : ℕ) → NextFits (end_of phase at)
  unfolding end_of
  end-fits Start at = tt
  end-fits AfterUnsat at = tt
  end-fits InPair at = tt
  end-fits AfterPair at = tt
  end-fits Plain at = tt

  token-fits : (closes : Bool) (count : ℕ) (extra : Bool) (phase : Phase) (t : Input) → NextFits (decided closes count (from_token limits extra phase t))
  unfolding decided from_token
  token-fits closes count true phase t = tt
  token-fits closes count false phase t = known-fits closes count phase t (command limits t.bytes) refl

  front-fits : (closes : Bool) (count : ℕ) (phase : Phase) (t : Input) (bytes : List ℕ) → NextFits (decided closes count (from_front limits phase t bytes))
  unfolding decided from_front
  front-fits true count phase t [] = end-fits phase t.at
  front-fits false count phase t [] = tt
  front-fits closes count phase t (x ∷ xs) = token-fits closes count (is_extra phase (class x)) phase t

  next-fits : (closes : Bool) (phase : Phase) (comment : Bool) (bytes : List ℕ) → NextFits (next_from limits closes phase comment bytes)
  unfolding next_from so_far answer
  next-fits closes phase comment bytes =
      let h = strip limits phase comment (record { at = 0; bytes = bytes }) in front-fits closes (length bytes) h.phase h.rest h.rest.bytes

  read-fits : (others : Phase → Spot → List ℕ → Reads) → ((phase : Phase) (spot : Spot) (bytes : List ℕ) → AllCommands (TextsFit limits) (others phase spot bytes)) → (spot : Spot) (bytes : List ℕ) (n : Next) → NextFits n →
      AllCommands (TextsFit limits) (read_next others spot bytes n)
  unfolding read_next placed
  read-fits others later spot bytes (Command s start size phase) h = (h, later phase (spot_after spot (take (start + size) bytes)) (drop (start + size) bytes))
  read-fits others later spot bytes End h = tt
  read-fits others later spot bytes (Fault name at) h = tt

  reads-fit : (closes : Bool) (turns : ℕ) (phase : Phase) (spot : Spot) (bytes : List ℕ) → AllCommands (TextsFit limits) (reads_from limits closes turns phase spot bytes)
  unfolding reads_from
  reads-fit closes zero phase spot bytes = tt
  reads-fit closes (suc turns) phase spot bytes = read-fits (reads_from limits closes turns) (reads-fit closes turns) spot bytes (next_from limits closes phase false bytes) (next-fits closes phase false bytes)

  pub texts-fit : (proof : Bool) (bytes : List ℕ) → AllCommands (TextsFit limits) (reads_file limits proof bytes)
  unfolding reads_file reads_all
  texts-fit proof bytes = reads-fit (nat_le (length bytes) limits.file) _ _ _ _
