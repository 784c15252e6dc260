-- A list ends with its last byte: where a text ends within it, it ends later.
use Rattle.std.proofs.Common.{◌≡◌, refl, ℕ, zero, suc, ◌+◌, ◌≤◌, ◌<◌, Bool, true, false, List, [], ◌∷◌, ◌++◌, length, sym, ap, subst, ◌∙◌, arith}
use Rattle.std.specs.Prelude.{Option, Some, None}
use Rattle.eo_base.specs.declared.FaultName.{FaultName}
use Rattle.eo_base.specs.declared.FaultName.TheVariants.{CommandLong, TokenLong}
use Rattle.eo_base.specs.Limits.{Limits}
use Rattle.eo_sexp.specs.AtomKind.{AtomKind}
use Rattle.eo_sexp.specs.Sexp.{Sexp, Sexps, Atom, Listed, Next}
use Rattle.eo_sexp.specs.Lexicon.{Class, Space, Comment, Quote, Bar, Word, Open, Close, Other, class, Body, Closes, Stops, RunsOut, Input, advance, Passed, pass, skip}
use Rattle.eo_sexp.specs.Commands.{Reading, Whole, Refused, Cut, ◌>>=◌, front, prepend, and_others, listed, opened, at_most, delimited_atom, delimited, word_before, word, atom, turn, children, lists, sexp, command}
use Rattle.eo_sexp.proofs.Passing.{extended, end_at, pass-append, IsPassed, pass-passed}
use Rattle.eo_sexp.proofs.Steady.{IsBeyond, Extends, if-cases}
use Rattle.eo_sexp.proofs.Atoms.{atom-beyond, atom-extends}
use Rattle.eo_sexp.proofs.Whole.{AreSteadyAtByte, lists-steady, command-extends}

-- if it is whole, it ends after byte k
abbrev pub IsPast : {A : Type 0} → ℕ → Reading A → Type 0
IsPast k (Whole x rest) = k < rest.at
IsPast k (Refused name at) = Unit {0}
IsPast k (Cut if_ends) = Unit {0}

-- where the text ends within r, the reading `new` of a longer one ends after its end
abbrev pub EndsLater : {A : Type 0} → ℕ → Reading A → Reading A → Type 0
EndsLater end (Whole x rest) new = Unit {0}
EndsLater end (Refused name at) new = Unit {0}
EndsLater end (Cut if_ends) new = IsPast end new

past-trans : {A : Type 0} (j k : ℕ) (r : Reading A) → j ≤ k → IsPast k r → IsPast j r
past-trans j k (Whole x rest) p h = omega arith
past-trans j k (Refused name at) p h = tt
past-trans j k (Cut if_ends) p h = tt

bind-past : {A B : Type 0} (k : ℕ) (r : Reading A) (f : A → Input → Reading B) → ((x : A) (rest : Input) → IsPast rest.at (f x rest)) → IsBeyond k r → IsPast k (r >>= f)
unfolding ◌>>=◌
bind-past k (Whole x rest) f h p = past-trans k rest.at (f x rest) p (h x rest)
bind-past k (Refused name at) f h p = tt
bind-past k (Cut if_ends) f h p = tt

bind-later : {A B : Type 0} (end : ℕ) (more : List ℕ) (r new : Reading A) (f : A → Input → Reading B) → ((x : A) (rest : Input) → IsPast rest.at (f x rest)) →
    ((x : A) (rest : Input) → EndsLater (end_at rest) (f x rest) (f x (extended rest more))) → Extends end more r new → EndsLater end (r >>= f) (new >>= f)
unfolding ◌>>=◌
bind-later end more (Whole x rest) new f b h p = rw p.0 (subst (λ (e : ℕ). EndsLater e (f x rest) (f x (extended rest more))) p.1 (h x rest))
bind-later end more (Refused name at) new f b h p = tt
bind-later end more (Cut if_ends) new f b h p = bind-past end new f b p

-- what is made of a whole reading, where it ends
keep-past : {A B : Type 0} (k : ℕ) (r : Reading A) (g : A → B) → IsPast k r → IsPast k (r >>= λ x rest. Whole (g x) rest)
unfolding ◌>>=◌
keep-past k (Whole x rest) g h = h
keep-past k (Refused name at) g h = tt
keep-past k (Cut if_ends) g h = tt

keep-later : {A B : Type 0} (end : ℕ) (r new : Reading A) (g : A → B) → EndsLater end r new → EndsLater end (r >>= λ x rest. Whole (g x) rest) (new >>= λ x rest. Whole (g x) rest)
unfolding ◌>>=◌
keep-later end (Whole x rest) new g h = tt
keep-later end (Refused name at) new g h = tt
keep-later end (Cut if_ends) new g h = keep-past end new g h

pub record IsStrict {A : Type 0} (f : Input → Reading A) : Type 0 where
  pub past : (t : Input) → IsPast t.at (f t)
  pub later : (t : Input) (more : List ℕ) → EndsLater (end_at t) (f t) (f (extended t more))

abbrev AreStrict : {A : Type 0} → Option (Input → Reading A) → Type 0
AreStrict None = Unit {0}
AreStrict (Some f) = IsStrict f

listed-past : (end at : ℕ) (new : Reading Sexps) → IsPast end new → IsPast end (new >>= λ inside rest. Whole (Listed inside (record { from = at; to = rest.at })) rest)
unfolding ◌>>=◌
listed-past end at (Whole y rest) h = h
listed-past end at (Refused name n) h = tt
listed-past end at (Cut if_ends) h = tt

listed-later : (end at : ℕ) (r new : Reading Sexps) → EndsLater end r new →
    EndsLater end (r >>= λ inside rest. Whole (Listed inside (record { from = at; to = rest.at })) rest) (new >>= λ inside rest. Whole (Listed inside (record { from = at; to = rest.at })) rest)
unfolding ◌>>=◌
listed-later end at (Whole y rest) new h = tt
listed-later end at (Refused name n) new h = tt
listed-later end at (Cut if_ends) new h = listed-past end at new h

-- ---- what is read whole, read again

sexp_or : Sexp → Reading Sexp → Sexp
sexp_or d (Whole x rest) = x
sexp_or d (Refused name at) = d
sexp_or d (Cut i) = d

rest_or : Input → Reading Sexp → Input
rest_or d (Whole x rest) = rest
rest_or d (Refused name at) = d
rest_or d (Cut i) = d

pub whole_sexp : (x s : Sexp) (u rest : Input) → ◌≡◌ {A = Reading Sexp} (Whole x u) (Whole s rest) → x ≡ s
unfolding sexp_or
whole_sexp x s u rest e = ap (sexp_or x) e

pub whole_rest : (x s : Sexp) (u rest : Input) → ◌≡◌ {A = Reading Sexp} (Whole x u) (Whole s rest) → u ≡ rest
unfolding rest_or
whole_rest x s u rest e = ap (rest_or u) e

no-bytes : (at end : ℕ) (bytes more : List ℕ) → at + length bytes ≡ end → at ≡ end → ◌≡◌ {A = Input} (record { at = at; bytes = bytes ++ more }) (record { at = end; bytes = more })
no-bytes at end [] more e f = ap (λ (n : ℕ). record { at = n; bytes = more }) f
no-bytes at end (b ∷ bs) more e f = absurd (omega (arith, e, f))

again-whole : (s : Sexp) (rest : Input) (end : ℕ) (before more : List ℕ) (r long new : Reading Sexp) → Extends end before r long → EndsLater end r long → Extends end more r new → long ≡ Whole s rest → rest.at ≡ end → new ≡ Whole s (record { at = end; bytes = more })
again-whole s rest end before more (Whole x u) long new h l i e at =
    let same = sym h.0 ∙ e in
    i.0 ∙ ap (λ (y : Sexp). Whole y (extended u more)) (whole_sexp x s (extended u before) rest same)
    ∙ ap (λ (v : Input). Whole s v) (no-bytes u.at end u.bytes more h.1 (ap (λ (v : Input). v.at) (whole_rest x s (extended u before) rest same) ∙ at))
again-whole s rest end before more (Refused n a) long new h l i e at = absurd (cc (sym h.0 ∙ e))
again-whole s rest end before more (Cut o) long new h l i e at =
    let late : end < rest.at = subst (IsPast end) e l in absurd (omega (arith, at, late))

module _ (limits : Limits) where
  module _ (others : Input → Reading Sexps) (strict : IsStrict others) where
    others-past : (s : Sexp) (rest : Input) → IsPast rest.at (and_others others s rest)
    unfolding and_others prepend
    others-past s rest = keep-past rest.at (others rest) (λ o. Next s o) (strict.past rest)

    others-later : (more : List ℕ) (s : Sexp) (rest : Input) → EndsLater (end_at rest) (and_others others s rest) (and_others others s (extended rest more))
    unfolding and_others prepend
    others-later more s rest = keep-later (end_at rest) (others rest) (others (extended rest more)) (λ o. Next s o) (strict.later rest more)

  turn-past : (inner : Option (Input → Reading Sexp)) (others : Option (Input → Reading Sexps)) → AreSteadyAtByte inner → AreStrict others → (t : Input) (bytes : List ℕ) (c : Class) → IsPast t.at (turn limits inner others t bytes c)
  unfolding turn advance
  turn-past inner others i o t [] c = tt
  turn-past inner others i o t (x ∷ xs) Close = omega arith
  turn-past inner others i o t (x ∷ xs) Other = tt
  turn-past None others i o t (x ∷ xs) Open = tt
  turn-past inner None i o t (x ∷ xs) c = tt
  turn-past (Some list) (Some others) i o t (x ∷ xs) Open = bind-past t.at (list t) (and_others others) (others-past others o) (i.beyond t)
  turn-past inner (Some others) i o t (x ∷ xs) c = bind-past t.at (atom limits c t) (and_others others) (others-past others o) (atom-beyond limits c t)

  turn-later : (inner : Option (Input → Reading Sexp)) (others : Option (Input → Reading Sexps)) → AreSteadyAtByte inner → AreStrict others → (at x : ℕ) (xs more : List ℕ) (c : Class) →
      EndsLater (at + suc (length xs)) (turn limits inner others (record { at = at; bytes = x ∷ xs }) (x ∷ xs) c) (turn limits inner others (record { at = at; bytes = x ∷ xs ++ more }) (x ∷ xs ++ more) c)
  unfolding turn advance
  turn-later inner others i o at x xs more Close = tt
  turn-later inner others i o at x xs more Other = tt
  turn-later None others i o at x xs more Open = tt
  turn-later inner None i o at x xs more c = tt
  turn-later (Some list) (Some others) i o at x xs more Open =
      let t : Input = record { at = at; bytes = x ∷ xs } in
      bind-later (end_at t) more (list t) (list (extended t more)) (and_others others) (others-past others o) (others-later others o more) (i.extends at x xs more)
  turn-later inner (Some others) i o at x xs more c =
      let t : Input = record { at = at; bytes = x ∷ xs } in
      bind-later (end_at t) more (atom limits c t) (atom limits c (extended t more)) (and_others others) (others-past others o) (others-later others o more) (atom-extends limits c at x xs more)

  module _ (inner : Option (Input → Reading Sexp)) (others : Option (Input → Reading Sexps)) (i : AreSteadyAtByte inner) (o : AreStrict others) where
    at_front : Input → Reading Sexps
    at_front u = turn limits inner others u u.bytes (front u.bytes)

    at_front-past : (u : Input) → IsPast u.at (at_front u)
    unfolding at_front
    at_front-past u = turn-past inner others i o u u.bytes (front u.bytes)

    front-later : (begin end : ℕ) (comment : Bool) (at : ℕ) (bytes more : List ℕ) (h : IsPassed begin end (record { comment = comment; rest = record { at = at; bytes = bytes } })) →
        EndsLater end (at_front (record { at = at; bytes = bytes })) (at_front (pass comment at (bytes ++ more)).rest)
    unfolding at_front front turn
    front-later begin end comment at [] more h =
        let later = pass-passed comment at more in
        past-trans end (pass comment at more).rest.at (at_front (pass comment at more).rest) (omega (arith, h.keeps, later.begins)) (at_front-past (pass comment at more).rest)
    front-later begin end comment at (x ∷ xs) more h =
        rw (h.stops.1 more) (subst (λ (e : ℕ). EndsLater e (turn limits inner others (record { at = at; bytes = x ∷ xs }) (x ∷ xs) (class x)) (turn limits inner others (record { at = at; bytes = x ∷ xs ++ more }) (x ∷ xs ++ more) (class x)))
        h.keeps (turn-later inner others i o at x xs more (class x)))

    at_front-strict : IsStrict (λ t. at_front (skip t))
    unfolding skip
    at_front-strict = record {
      past = λ t. let h = pass-passed false t.at t.bytes in
          past-trans t.at (pass false t.at t.bytes).rest.at (at_front (pass false t.at t.bytes).rest) h.begins (at_front-past (pass false t.at t.bytes).rest);
      later = λ t more. subst (λ (q : Passed). EndsLater (end_at t) (at_front (pass false t.at t.bytes).rest) (at_front q.rest)) (sym (pass-append false t.at t.bytes more))
          (front-later t.at (end_at t) (pass false t.at t.bytes).comment (pass false t.at t.bytes).rest.at (pass false t.at t.bytes).rest.bytes more (pass-passed false t.at t.bytes));
    }

  pub children-strict : (inner : Option (Input → Reading Sexp)) → AreSteadyAtByte inner → (more : ℕ) → IsStrict (children limits inner more)
  unfolding children at_front
  children-strict inner i zero = at_front-strict inner None i tt
  children-strict inner i (suc more) = at_front-strict inner (Some (children limits inner more)) i (children-strict inner i more)

  list-later : (deeper at x : ℕ) (xs more : List ℕ) → EndsLater (at + suc (length xs)) (opened (lists limits deeper) (record { at = at; bytes = x ∷ xs })) (opened (lists limits deeper) (record { at = at; bytes = x ∷ xs ++ more }))
  unfolding opened lists listed advance
  list-later zero at x xs more = tt
  list-later (suc deeper) at x xs more =
      let f : Input → Reading Sexps = children limits (lists limits deeper) limits.width in
      let strict : IsStrict f = children-strict (lists limits deeper) (lists-steady limits deeper) limits.width in
      listed-later (at + suc (length xs)) at (f (record { at = at + 1; bytes = xs })) (f (record { at = at + 1; bytes = xs ++ more }))
      (subst (λ (e : ℕ). EndsLater e (f (record { at = at + 1; bytes = xs })) (f (record { at = at + 1; bytes = xs ++ more }))) (omega arith) (strict.later (record { at = at + 1; bytes = xs }) more))

  limit-past : (end : ℕ) (t : Input) (r : Reading Sexp) → IsPast end r → IsPast end (at_most CommandLong limits.command t r)
  unfolding at_most
  limit-past end t (Whole x rest) h = if-cases (IsPast end) _ (Whole x rest) (Refused CommandLong (t.at + limits.command)) (λ e. h) (λ e. tt)
  limit-past end t (Refused n at) h = if-cases (IsPast end) _ (Refused n at) (Refused CommandLong (t.at + limits.command)) (λ e. tt) (λ e. tt)
  limit-past end t (Cut i) h = if-cases (IsPast end) _ (Cut i) (Refused CommandLong (t.at + limits.command)) (λ e. tt) (λ e. tt)

  limit-later : (end : ℕ) (t u : Input) (r new : Reading Sexp) → EndsLater end r new → EndsLater end (at_most CommandLong limits.command t r) (at_most CommandLong limits.command u new)
  unfolding at_most
  limit-later end t u (Whole x rest) new h = if-cases (λ a. EndsLater end a (at_most CommandLong limits.command u new)) _ (Whole x rest) (Refused CommandLong (t.at + limits.command)) (λ e. tt) (λ e. tt)
  limit-later end t u (Refused n at) new h = if-cases (λ a. EndsLater end a (at_most CommandLong limits.command u new)) _ (Refused n at) (Refused CommandLong (t.at + limits.command)) (λ e. tt) (λ e. tt)
  limit-later end t u (Cut i) new h = if-cases (λ a. EndsLater end a (at_most CommandLong limits.command u new)) _ (Cut i) (Refused CommandLong (t.at + limits.command)) (λ e. limit-past end u new h) (λ e. tt)

  -- a list of which the text has not all ends after the text
  command-later : (x : ℕ) (xs more : List ℕ) → class x ≡ Open → EndsLater (suc (length xs)) (command limits (x ∷ xs)) (command limits (x ∷ xs ++ more))
  unfolding command front sexp
  command-later x xs more e =
      limit-later (suc (length xs)) (record { at = 0; bytes = x ∷ xs }) (record { at = 0; bytes = x ∷ xs ++ more }) (sexp limits (class x) (record { at = 0; bytes = x ∷ xs })) (sexp limits (class x) (record { at = 0; bytes = x ∷ xs ++ more }))
      (subst (λ (c : Class). EndsLater (suc (length xs)) (sexp limits c (record { at = 0; bytes = x ∷ xs })) (sexp limits c (record { at = 0; bytes = x ∷ xs ++ more }))) (sym e)
      (subst (λ (n : ℕ). EndsLater n (opened (lists limits limits.nesting) (record { at = 0; bytes = x ∷ xs })) (opened (lists limits limits.nesting) (record { at = 0; bytes = x ∷ xs ++ more }))) (omega arith) (list-later limits.nesting 0 x xs more)))

  -- A list that is read from the front of a text is read so from its own bytes, whatever follows them.
  pub read-again : (x : ℕ) (xs before more : List ℕ) (s : Sexp) (rest : Input) → class x ≡ Open → command limits (x ∷ xs ++ before) ≡ Whole s rest → rest.at ≡ suc (length xs) →
      command limits (x ∷ xs ++ more) ≡ Whole s (record { at = suc (length xs); bytes = more })
  read-again x xs before more s rest opens e at =
      again-whole s rest (suc (length xs)) before more (command limits (x ∷ xs)) (command limits (x ∷ xs ++ before)) (command limits (x ∷ xs ++ more))
      (command-extends limits x xs before) (command-later x xs before opens) (command-extends limits x xs more) e at

-- ---- atoms and lists

-- an atom, if anything
abbrev pub OnlyAtoms : Reading Sexp → Type 0
OnlyAtoms (Whole (Atom kind text span) rest) = Unit {0}
OnlyAtoms (Whole (Listed children span) rest) = ⊥
OnlyAtoms (Refused name at) = Unit {0}
OnlyAtoms (Cut None) = Unit {0}
OnlyAtoms (Cut (Some (Atom kind text span))) = Unit {0}
OnlyAtoms (Cut (Some (Listed children span))) = ⊥

limit-atoms : (name : FaultName) (most : ℕ) (t : Input) (r : Reading Sexp) → OnlyAtoms r → OnlyAtoms (at_most name most t r)
unfolding at_most
limit-atoms name most t (Whole x rest) h = if-cases OnlyAtoms _ (Whole x rest) (Refused name (t.at + most)) (λ e. h) (λ e. tt)
limit-atoms name most t (Refused n at) h = if-cases OnlyAtoms _ (Refused n at) (Refused name (t.at + most)) (λ e. tt) (λ e. tt)
limit-atoms name most t (Cut i) h = if-cases OnlyAtoms _ (Cut i) (Refused name (t.at + most)) (λ e. h) (λ e. tt)

delimited-atoms : (k : AtomKind) (t : Input) (b : Body) → OnlyAtoms (delimited k t b)
unfolding delimited delimited_atom
delimited-atoms k t (Closes size) = tt
delimited-atoms k t (Stops size) = tt
delimited-atoms k t (RunsOut true) = tt
delimited-atoms k t (RunsOut false) = tt

word-atoms : (t : Input) (text rest : List ℕ) → OnlyAtoms (word_before t text rest)
unfolding word_before
word-atoms t text [] = tt
word-atoms t text (x ∷ xs) = tt

module _ (limits : Limits) where
  pub atom-atoms : (c : Class) (t : Input) → OnlyAtoms (atom limits c t)
  unfolding atom word
  atom-atoms Quote t = limit-atoms TokenLong limits.token t _ (delimited-atoms _ t _)
  atom-atoms Bar t = limit-atoms TokenLong limits.token t _ (delimited-atoms _ t _)
  atom-atoms Word t = limit-atoms TokenLong limits.token t _ (word-atoms t _ _)
  atom-atoms Space t = tt
  atom-atoms Comment t = tt
  atom-atoms Open t = tt
  atom-atoms Close t = tt
  atom-atoms Other t = tt

  -- a text that begins with no `(` is no list
  pub sexp-atoms : (c : Class) (t : Input) → (c ≡ Open → ⊥) → OnlyAtoms (sexp limits c t)
  unfolding sexp
  sexp-atoms Open t h = absurd (h refl)
  sexp-atoms c t h = atom-atoms c t

  pub command-atoms : (x : ℕ) (xs : List ℕ) → (class x ≡ Open → ⊥) → OnlyAtoms (command limits (x ∷ xs))
  unfolding command front
  command-atoms x xs h = limit-atoms CommandLong limits.command (record { at = 0; bytes = x ∷ xs }) _ (sexp-atoms (class x) (record { at = 0; bytes = x ∷ xs }) h)
