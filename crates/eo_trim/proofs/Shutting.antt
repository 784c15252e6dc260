-- What an effect leaves of macros, facts and open scopes.
use Rattle.std.specs.Prelude.{◌≡◌, ℕ, ◌≤◌, Bool, true, false, if◌then◌else◌, List, [], ◌∷◌, ◌++◌, length, drop, Ok, refl}
use Rattle.std.proofs.Common.{sym, subst, arith, length-append}
use Rattle.std.proofs.lemmas.List.{length-take-le}
use Rattle.eo_term.specs.Tree.{Tree}
use Rattle.eo_sig.specs.Signature.{Macro}
use Rattle.eo_proof.specs.Scopes.{Scope, Scopes, Fact, fact, in_innermost, outside, with_fact, with_scope}
use Rattle.eo_shape.specs.Shapes.{Command, Assume, AssumePush, Step, StepPop}
use Rattle.eo_session.specs.State.{State, is_asserted, macros_before, without_scope}
use Rattle.eo_session.specs.Step.{Concluded, with_conclusion}
use Rattle.eo_session.specs.Decisions.{decided}
use Rattle.eo_session.specs.Effects.{Effect, Declares, Defines, Asserts, Opens, Adds, Nothing, after}
use Rattle.eo_session.specs.Notes.{Act, act_of}
use Rattle.eo_session.specs.Origin.{Origin}
use Rattle.eo_trim.specs.Needed.{scopes_after, is_proof_step}
use Rattle.eo_trim.proofs.Acts.{IsPlain, plain_effect, assume_is, push_is, step_is, pop_is}

-- ---- scopes with their numbers

-- The open scopes, each with its number and with how many macros were before it.
abbrev pub StackFits : List ℕ → List Scope → List ℕ → ℕ → Type 0
StackFits [] [] [] m = Unit {0}
StackFits (k ∷ ks) (s ∷ ss) (o ∷ os) m = (o ≤ m) × StackFits ks ss os o
StackFits ks ss os m = ⊥

abbrev pub Fits : List ℕ → State → Type 0
Fits stack st = StackFits stack st.scopes.opened st.outer_macros (length st.macros)

stack-more : (ks : List ℕ) (ss : List Scope) (os : List ℕ) (m n : ℕ) → m ≤ n → StackFits ks ss os m → StackFits ks ss os n
stack-more [] [] [] m n l h = tt
stack-more (k ∷ ks) (s ∷ ss) (o ∷ os) m n l h = (omega (arith, l, h.0), h.1)
stack-more ks ss os m n l h = absurd h

stack-fact : (ks : List ℕ) (o : List Fact) (ss : List Scope) (os : List ℕ) (m : ℕ) (f : Fact) → StackFits ks ss os m → StackFits ks (in_innermost o ss f).opened os m
stack-fact [] o [] [] m f h = tt
stack-fact (k ∷ ks) o (s ∷ ss) (p ∷ os) m f h = h
stack-fact ks o ss os m f h = absurd h

-- what stays of them where the innermost scope is closed
stack-pop : (ks : List ℕ) (ss : List Scope) (os : List ℕ) (ms : List Macro) → StackFits ks ss os (length ms) → StackFits (drop 1 ks) (drop 1 ss) (drop 1 os) (length (macros_before os ms))
stack-pop [] [] [] ms h = tt
stack-pop (k ∷ ks) (s ∷ ss) (o ∷ os) ms h = subst (λ (n : ℕ). StackFits ks ss os n) (sym (length-take-le o ms h.0)) h.1
stack-pop ks ss os ms h = absurd h

-- ---- what an effect that makes no facts leaves

-- macros only grow, and the marks of scopes and the facts stay
abbrev pub Grows : State → State → Type 0
Grows st new = (new.outer_macros ≡ st.outer_macros) × (length st.macros ≤ length new.macros) × (new.scopes ≡ st.scopes)

asserts_grow : (b : Bool) (st : State) (t : Tree) (ms : List Macro) → Grows st (record (if b then st else record st { assertions = st.assertions ++ t ∷ [] }) { macros = (if b then st else record st { assertions = st.assertions ++ t ∷ [] }).macros ++ ms })
asserts_grow true st t ms = (refl, omega (arith, length-append st.macros ms), refl)
asserts_grow false st t ms = (refl, omega (arith, length-append st.macros ms), refl)

pub plain_grows : (st : State) (e : Effect) → IsPlain e → Grows st (after st e)
plain_grows st (Declares entry) h = (refl, omega arith, refl)
plain_grows st (Defines m) h = (refl, omega (arith, length-append st.macros (m ∷ [])), refl)
plain_grows st (Asserts t names) h = asserts_grow (is_asserted st t) st t _
plain_grows st (Opens name t) h = absurd h
plain_grows st (Adds name k closes) h = absurd h
plain_grows st Nothing h = (refl, omega arith, refl)

-- what is noted of it opens and closes no scope
abbrev pub Level : Act → Type 0
Level act = (stack : List ℕ) (n : ℕ) → (scopes_after stack n act ≡ stack) × (is_proof_step act ≡ false)

pub plain_level : (st : State) (command : Command) (e : Effect) → IsPlain e → Level (act_of st command e)
plain_level st command (Declares entry) h = λ stack n. (refl, refl)
plain_level st command (Defines m) h = λ stack n. (refl, refl)
plain_level st command (Asserts t names) h = λ stack n. (refl, refl)
plain_level st command (Opens name t) h = absurd h
plain_level st command (Adds name k closes) h = absurd h
plain_level st command Nothing h = λ stack n. (refl, refl)

-- commands are counted by the run alone
pub commands_same : (st : State) (e : Effect) → (after st e).commands ≡ st.commands
commands_same st (Declares entry) = refl
commands_same st (Defines m) = refl
commands_same st (Asserts t names) = by (is_asserted st t)
  where
    by : (b : Bool) → (if b then st else record st { assertions = st.assertions ++ t ∷ [] }).commands ≡ st.commands
    by true = refl
    by false = refl
commands_same st (Opens name t) = refl
commands_same st (Adds name k true) = refl
commands_same st (Adds name k false) = refl
commands_same st Nothing = refl

-- ---- what an effect leaves of the open scopes

-- a fact more, and a rule marked as unproved or not
pub fact-fits : (stack : List ℕ) (st : State) (name : List ℕ) (k : Concluded) → Fits stack st → Fits stack (with_conclusion st name k)
unfolding with_fact
fact-fits stack st name k h = stack-fact stack st.scopes.outermost st.scopes.opened st.outer_macros (length st.macros) (fact name k.formula st.commands) h

pub outside-fits : (stack : List ℕ) (st : State) → Fits stack st → Fits (drop 1 stack) (without_scope st)
unfolding outside
outside-fits stack st h = stack-pop stack st.scopes.opened st.outer_macros st.macros h

plain-fits : (stack : List ℕ) (st new : State) → Grows st new → Fits stack st → Fits stack new
plain-fits stack st new g h =
    subst (λ (f : Scopes). StackFits stack f.opened new.outer_macros (length new.macros)) (sym g.2)
    (subst (λ (os : List ℕ). StackFits stack st.scopes.opened os (length new.macros)) (sym g.0) (stack-more stack st.scopes.opened st.outer_macros (length st.macros) (length new.macros) g.1 h))

module _ (stack : List ℕ) (st : State) (from : Origin) (h : Fits stack st) where
  abbrev FitsAfter : Command → Effect → Type 0
  FitsAfter command e = Fits (scopes_after stack st.commands (act_of st command e)) (after st e)

  plain_new : (command : Command) (e : Effect) → IsPlain e → FitsAfter command e
  plain_new command e plain = subst (λ (x : List ℕ). Fits x (after st e)) (sym (plain_level st command e plain stack st.commands).0) (plain-fits stack st (after st e) (plain_grows st e plain) h)

  pub fits_new : (command : Command) (e : Effect) → decided st from command ≡ Ok e → Fits (scopes_after stack st.commands (act_of st command e)) (after st e)
  unfolding with_scope
  fits_new (Assume name s) e is =
      let k = assume_is st name s e is in
      subst (FitsAfter (Assume name s)) (sym k.3) (fact-fits stack st name (record { formula = k.1; sorry = false }) h)
  fits_new (AssumePush name s) e is = subst (FitsAfter (AssumePush name s)) (sym (push_is st name s e is).1) (omega arith, h)
  fits_new (Step s) e is =
      let k = step_is st s e is in
      subst (FitsAfter (Step s)) (sym k.2) (fact-fits stack st s.name k.0 h)
  fits_new (StepPop s) e is =
      let k = pop_is st s e is in
      subst (FitsAfter (StepPop s)) (sym k.4) (fact-fits (drop 1 stack) (without_scope st) s.name k.2 (outside-fits stack st h))
  fits_new command e is = plain_new command e (plain_effect st from command refl e is)
