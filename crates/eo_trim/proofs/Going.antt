-- The run of the needed commands is in the state without the innermost scopes that are not needed.
use Rattle.std.specs.Prelude.{◌≡◌, ℕ, suc, Bool, true, false, ◌||◌, if◌then◌else◌, List, [], ◌∷◌, ◌++◌, length, drop, Some, refl, slice_get, nat_eq}
use Rattle.std.proofs.Common.{sym, ap, subst, ◌∙◌, true≢false, arith}
use Rattle.std.proofs.lemmas.List.{take-append-le}
use Rattle.std.proofs.lemmas.Bool.{ne_eqb}
use Rattle.eo_term.specs.Tree.{Tree}
use Rattle.eo_sig.specs.Signature.{Macro}
use Rattle.eo_proof.specs.Scopes.{Scope, Scopes, in_innermost, fact, outside, with_fact}
use Rattle.eo_session.specs.State as state
use Rattle.eo_session.specs.State.{State, without_scope, macros_before}
use Rattle.eo_session.specs.Step.{Concluded, with_conclusion}
use Rattle.eo_session.specs.Notes.{Act, Defines, Closes, StepNote}
use Rattle.eo_trim.specs.Needed.{premises_of, is_proof_step}
use Rattle.eo_trim.proofs.Facts.{fact-dropped}
use Rattle.eo_trim.proofs.Steps.{Each, Like}
use Rattle.eo_trim.proofs.Shutting.{StackFits, Fits}

pub stack-none : (ks : List ℕ) (os : List ℕ) (m : ℕ) → StackFits ks [] os m → ks ≡ []
stack-none [] [] m h = refl
stack-none ks os m h = absurd h

-- a scope is open where one has a number
pub stack-open : (k : ℕ) (ks : List ℕ) (ss : List Scope) (os : List ℕ) (m : ℕ) → StackFits (k ∷ ks) ss os m → nat_eq (length ss) 0 ≡ false
stack-open k ks (s ∷ ss) (o ∷ os) m h = ne_eqb (suc (length ss)) 0 (λ e. omega arith)
stack-open k ks ss os m h = absurd h

pub stack-closed : (ss : List Scope) (os : List ℕ) (m : ℕ) → StackFits [] ss os m → nat_eq (length ss) 0 ≡ true
stack-closed [] [] m h = refl
stack-closed ss os m h = absurd h

pub before-same : (k : ℕ) (ks : List ℕ) (ss : List Scope) (os : List ℕ) (ms more : List Macro) → StackFits (k ∷ ks) ss os (length ms) → macros_before os (ms ++ more) ≡ macros_before os ms
before-same k ks (s ∷ ss) (o ∷ os) ms more h = take-append-le o ms more h.0
before-same k ks ss os ms more h = absurd h

pub fact-outside : (k : ℕ) (ks : List ℕ) (os : List ℕ) (m : ℕ) (f : Scopes) (name : List ℕ) (t : Tree) (n : ℕ) → StackFits (k ∷ ks) f.opened os m → outside (with_fact f name t n) ≡ outside f
unfolding outside with_fact
fact-outside k ks os m f name t n h = go f.opened os h
  where
    go : (ss : List Scope) (os : List ℕ) → StackFits (k ∷ ks) ss os m → record (in_innermost f.outermost ss (fact name t n)) { opened = drop 1 (in_innermost f.outermost ss (fact name t n)).opened } ≡ record f { opened = drop 1 ss }
    go (s ∷ ss) (o ∷ os) h = refl
    go ss os h = absurd h

module _ (N : ℕ → Bool) where
  -- the state without the innermost scopes that are not needed
  unfoldable pub shut : List ℕ → State → State
  shut [] st = st
  shut (k ∷ ks) st = if N k then st else shut ks (without_scope st)

  -- with a needed scope, those around it
  abbrev pub Nested : List ℕ → Type 0
  Nested [] = Unit {0}
  Nested (k ∷ ks) = (N k ≡ true → Each N ks) × Nested ks

  -- what is known of a command, by the open scopes before it, its number and what it does
  pub record Entry (stack : List ℕ) (n : ℕ) (act : Act) : Type 0 where
    pub inside : N n ≡ true → Each N stack
    pub declared : stack ≡ [] → is_proof_step act ≡ false → N n ≡ true
    pub premises : N n ≡ true → Each N (premises_of act)
    pub closes : (note : StepNote) (k : ℕ) → act ≡ Closes note → slice_get stack 0 ≡ Some k → N k ≡ true → N n ≡ true
    pub defines : (k : ℕ) → act ≡ Defines → slice_get stack 0 ≡ Some k → N k ≡ true → N n ≡ true

  pub shut-true : (b : Bool) (x y : State) → b ≡ true → (if b then x else y) ≡ x
  shut-true true x y e = refl
  shut-true false x y e = absurd (true≢false (sym e))

  pub shut-false : (b : Bool) (x y : State) → b ≡ false → (if b then x else y) ≡ y
  shut-false true x y e = absurd (true≢false e)
  shut-false false x y e = refl

  pub shut-live : (stack : List ℕ) (st : State) → Each N stack → shut stack st ≡ st
  unfolding shut
  shut-live [] st h = refl
  shut-live (k ∷ ks) st h = shut-true (N k) st _ h.0

  -- ---- a fact, and a rule marked as unproved, that are not needed

  like-less : (st also : State) (b : Bool) → Like N st also → Like N (record st { sorry = st.sorry || b }) also
  like-less st also b l = record { scopes = l.scopes; sorry = l.sorry; commands = l.commands; is = l.is; facts = l.facts; proved = λ e. l.proved (left st.sorry b e) }
    where
      left : (a b : Bool) → (a || b) ≡ false → a ≡ false
      left true b e = e
      left false b e = refl

  like-fact : (st also : State) (name : List ℕ) (t : Tree) → N st.commands ≡ false → Like N st also → Like N (state.with_fact st name t) also
  like-fact st also name t not l = record {
    scopes = l.scopes;
    sorry = l.sorry;
    commands = l.commands;
    is = l.is;
    facts = fact-dropped N st.scopes l.scopes l.facts name t st.commands not;
    proved = l.proved;
  }

  pub sorry-shut : (stack : List ℕ) (st also : State) (b : Bool) → Like N (shut stack st) also → Like N (shut stack (record st { sorry = st.sorry || b })) also
  unfolding shut
  sorry-shut [] st also b l = like-less st also b l
  sorry-shut (k ∷ ks) st also b l = go (N k) l (sorry-shut ks (without_scope st) also b)
    where
      go : (c : Bool) → Like N (if c then st else shut ks (without_scope st)) also →
          (Like N (shut ks (without_scope st)) also → Like N (shut ks (record (without_scope st) { sorry = st.sorry || b })) also) →
          Like N (if c then record st { sorry = st.sorry || b } else shut ks (record (without_scope st) { sorry = st.sorry || b })) also
      go true l h = like-less st also b l
      go false l h = h l

  pub fact-shut : (stack : List ℕ) (st also : State) (name : List ℕ) (t : Tree) → N st.commands ≡ false → Fits stack st → Like N (shut stack st) also → Like N (shut stack (state.with_fact st name t)) also
  unfolding shut
  fact-shut [] st also name t not fits l = like-fact st also name t not l
  fact-shut (k ∷ ks) st also name t not fits l = go (N k) l
    where
      go : (c : Bool) → Like N (if c then st else shut ks (without_scope st)) also →
          Like N (if c then state.with_fact st name t else shut ks (without_scope (state.with_fact st name t))) also
      go true l = like-fact st also name t not l
      go false l =
          subst (λ (f : Scopes). Like N (shut ks (record (without_scope st) { scopes = f })) also)
          (sym (fact-outside k ks st.outer_macros (length st.macros) st.scopes name t st.commands fits)) l

  pub conclusion-shut : (stack : List ℕ) (st also : State) (name : List ℕ) (k : Concluded) → N st.commands ≡ false → Fits stack st → Like N (shut stack st) also → Like N (shut stack (with_conclusion st name k)) also
  conclusion-shut stack st also name k not fits l = sorry-shut stack (state.with_fact st name k.formula) also k.sorry (fact-shut stack st also name k.formula not fits l)

  -- the count of commands does not matter
  recount-shut : (stack : List ℕ) (st : State) (n : ℕ) → shut stack (record st { commands = n }) ≡ record (shut stack st) { commands = n }
  unfolding shut
  recount-shut [] st n = refl
  recount-shut (k ∷ ks) st n = go (N k) (recount-shut ks (without_scope st) n)
    where
      go : (c : Bool) → shut ks (record (without_scope st) { commands = n }) ≡ record (shut ks (without_scope st)) { commands = n } →
          (if c then record st { commands = n } else shut ks (record (without_scope st) { commands = n })) ≡ record (if c then st else shut ks (without_scope st)) { commands = n }
      go true h = refl
      go false h = h

  pub like-recount : (stack : List ℕ) (st also : State) (n m : ℕ) → Like N (shut stack st) also → Like N (shut stack (record st { commands = n })) (record also { commands = m })
  like-recount stack st also n m l =
      subst (λ (x : State). Like N x (record also { commands = m })) (sym (recount-shut stack st n))
      (record { scopes = l.scopes; sorry = l.sorry; commands = m; is = ap (λ (x : State). record x { commands = m }) l.is; facts = l.facts; proved = l.proved })

  -- ---- a reference file begins

  reference-shut : (stack : List ℕ) (st : State) → shut stack (record st { has_reference = true }) ≡ record (shut stack st) { has_reference = true }
  unfolding shut
  reference-shut [] st = refl
  reference-shut (k ∷ ks) st = go (N k) (reference-shut ks (without_scope st))
    where
      go : (c : Bool) → shut ks (record (without_scope st) { has_reference = true }) ≡ record (shut ks (without_scope st)) { has_reference = true } →
          (if c then record st { has_reference = true } else shut ks (record (without_scope st) { has_reference = true })) ≡ record (if c then st else shut ks (without_scope st)) { has_reference = true }
      go true h = refl
      go false h = h

  pub like-reference : (stack : List ℕ) (st also : State) → Like N (shut stack st) also → Like N (shut stack (record st { has_reference = true })) (record also { has_reference = true })
  like-reference stack st also l =
      subst (λ (x : State). Like N x (record also { has_reference = true })) (sym (reference-shut stack st))
      (record { scopes = l.scopes; sorry = l.sorry; commands = l.commands; is = ap (λ (x : State). record x { has_reference = true }) l.is; facts = l.facts; proved = l.proved })

  reference-stays : (stack : List ℕ) (st : State) → (shut stack st).has_reference ≡ st.has_reference
  unfolding shut
  reference-stays [] st = refl
  reference-stays (k ∷ ks) st = go (N k) (reference-stays ks (without_scope st))
    where
      go : (c : Bool) → (shut ks (without_scope st)).has_reference ≡ st.has_reference → (if c then st else shut ks (without_scope st)).has_reference ≡ st.has_reference
      go true h = refl
      go false h = h

  pub reference-like : (stack : List ℕ) (st also : State) → Like N (shut stack st) also → also.has_reference ≡ st.has_reference
  reference-like stack st also l = ap (λ (x : State). x.has_reference) l.is ∙ reference-stays stack st
