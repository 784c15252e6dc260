-- One command of a run, beside the run of the needed commands.
use Rattle.std.specs.Prelude.{◌≡◌, ℕ, ◌+◌, ◌^◌, ◌-◌, min, Bool, true, false, not, ◌||◌, List, [], ◌∷◌, length, drop, Some, Ok, refl, slice_get, nat_eq}
use Rattle.std.proofs.Common.{sym, ap, subst, ◌∙◌, true≢false, arith}
use Rattle.std.proofs.lemmas.List.{take_all}
use Rattle.std.proofs.lemmas.Option.{none-some}
use Rattle.eo_base.proofs.ChecksLemmas.{ok_injective}
use Rattle.eo_base.specs.Checks.{Checked}
use Rattle.eo_sexp.specs.Sexp.{Sexp}
use Rattle.eo_term.specs.Tree.{Tree}
use Rattle.eo_sig.specs.Signature.{Macro}
use Rattle.eo_proof.specs.Scopes.{Scope, hypotheses, innermost_hypothesis, outside, with_scope}
use Rattle.eo_shape.specs.Shapes.{Command, Define, Assume, AssumePush, Step, StepPop, command_of}
use Rattle.eo_session.specs.State as state
use Rattle.eo_session.specs.State.{State, without_scope, is_in_scope, with_command}
use Rattle.eo_session.specs.Step.{Concluded, with_conclusion, is_in_reference}
use Rattle.eo_session.specs.Commands.{may_be_in_scope, step, next_by}
use Rattle.eo_session.specs.Decisions.{decided}
use Rattle.eo_session.specs.Effects.{Effect, Declares, Defines, Asserts, Opens, Adds, Nothing, after}
use Rattle.eo_session.specs.Notes as notes
use Rattle.eo_session.specs.Notes.{Act, Closes, StepNote, act_of}
use Rattle.eo_session.specs.Origin.{Origin}
use Rattle.eo_session.specs.declared.Next.{Next}
use Rattle.eo_session.specs.declared.Next.TheVariants.{Done}
use Rattle.eo_run.specs.Seen.{noted}
use Rattle.eo_trim.specs.Needed.{scopes_after}
use Rattle.eo_trim.proofs.Acts.{IsPlain, IsMacro, plain_effect, define_is, assume_is, push_is, step_is, pop_is, accepts, accepted}
use Rattle.eo_trim.proofs.Facts.{depth-kept}
use Rattle.eo_trim.proofs.Grafts.{next_same}
use Rattle.eo_trim.proofs.Steps.{Each, Like, needed_goes}
use Rattle.eo_trim.proofs.Shutting.{StackFits, Fits, plain_level, outside-fits, fits_new}
use Rattle.eo_trim.proofs.Going.{shut, Nested, Entry, stack-open, before-same, shut-live, conclusion-shut, shut-false, like-recount}

next_injective : (x y : Next) → ◌≡◌ {A = Checked Next} (Ok x) (Ok y) → x ≡ y
next_injective x y e = ok_injective x y e

module _ (N : ℕ → Bool) where
  -- a command that is not needed
  module _ (st also : State) (from : Origin) (not_needed : N st.commands ≡ false) where
    no_need : {A : Type 0} → N st.commands ≡ true → A
    no_need need = absurd (true≢false (sym need ∙ not_needed))

    macro-shut : (k : ℕ) (ks : List ℕ) (m : Macro) → Fits (k ∷ ks) st → N k ≡ false → Like N (shut N (k ∷ ks) st) also → Like N (shut N (k ∷ ks) (state.with_macro st m)) also
    unfolding shut
    macro-shut k ks m fits dead l =
        let old : Like N (shut N ks (without_scope st)) also = subst (λ (x : State). Like N x also) (shut-false N (N k) st (shut N ks (without_scope st)) dead) l in
        subst (λ (x : State). Like N x also) (sym (shut-false N (N k) (state.with_macro st m) (shut N ks (without_scope (state.with_macro st m))) dead))
        (subst (λ (ms : List Macro). Like N (shut N ks (record (without_scope st) { macros = ms })) also) (sym (before-same k ks st.scopes.opened st.outer_macros st.macros (m ∷ []) fits)) old)

    define_stays : (stack : List ℕ) (command : Command) (e : Effect) → IsMacro e → Entry N stack st.commands (act_of st command e) → Fits stack st → Like N (shut N stack st) also → Like N (shut N stack (after st e)) also
    define_stays stack command Nothing is entry fits l = l
    define_stays [] command (Defines m) is entry fits l = no_need (entry.declared refl refl)
    define_stays (k ∷ ks) command (Defines m) is entry fits l = go (N k) refl
      where
        go : (b : Bool) → N k ≡ b → Like N (shut N (k ∷ ks) (state.with_macro st m)) also
        go true e = no_need (entry.defines k refl refl e)
        go false e = macro-shut k ks m fits e l
    define_stays stack command (Declares entry) is h fits l = absurd is
    define_stays stack command (Asserts t names) is entry fits l = absurd is
    define_stays stack command (Opens name t) is entry fits l = absurd is
    define_stays stack command (Adds name k closes) is entry fits l = absurd is

    scope_back : (name : List ℕ) (t : Tree) → without_scope (state.with_scope st name t) ≡ st
    unfolding outside with_scope
    scope_back name t = ap (λ (ms : List Macro). record st { macros = ms }) (take_all _ st.macros (omega arith))

    push_stays : (stack : List ℕ) (name : List ℕ) (t : Tree) → Like N (shut N stack st) also → Like N (shut N (st.commands ∷ stack) (state.with_scope st name t)) also
    unfolding shut
    push_stays stack name t l =
        subst (λ (x : State). Like N x also) (sym (shut-false N (N st.commands) (state.with_scope st name t) (shut N stack (without_scope (state.with_scope st name t))) not_needed))
        (subst (λ (x : State). Like N (shut N stack x) also) (sym (scope_back name t)) l)

    pop_stays : (stack : List ℕ) (note : StepNote) (name : List ℕ) (c : Concluded) (a : Tree) → innermost_hypothesis st.scopes ≡ Some a → Entry N stack st.commands (Closes note) → Fits stack st → Like N (shut N stack st) also →
        Like N (shut N (drop 1 stack) (with_conclusion (without_scope st) name c)) also
    unfolding shut innermost_hypothesis
    pop_stays [] note name c a opens entry fits l = go st.scopes.opened fits opens
      where
        go : (ss : List Scope) → StackFits [] ss st.outer_macros (length st.macros) → slice_get (hypotheses (record { outermost = st.scopes.outermost; opened = ss })) 0 ≡ Some a →
            Like N (shut N [] (with_conclusion (without_scope st) name c)) also
        go [] h e = absurd (none-some a e)
        go (s ∷ ss) h e = absurd h
    pop_stays (k ∷ ks) note name c a opens entry fits l = go (N k) refl
      where
        go : (b : Bool) → N k ≡ b → Like N (shut N ks (with_conclusion (without_scope st) name c)) also
        go true e = no_need (entry.closes note k refl refl e)
        go false e = conclusion-shut N ks (without_scope st) also name c not_needed (outside-fits (k ∷ ks) st fits) (subst (λ (x : State). Like N x also) (shut-false N (N k) st (shut N ks (without_scope st)) e) l)

    -- what may be in no scope is needed
    plain_stays : {A : Type 0} (stack : List ℕ) (command : Command) (e : Effect) → IsPlain e → may_be_in_scope command ≡ false → Entry N stack st.commands (act_of st command e) → Fits stack st → (not (is_in_scope st) || may_be_in_scope command) ≡ true → A
    plain_stays [] command e plain outer entry fits may = no_need (entry.declared refl (plain_level st command e plain [] st.commands).1)
    plain_stays (k ∷ ks) command e plain outer entry fits may =
        absurd (true≢false (sym may ∙ ap (λ b. not (is_in_scope st) || b) outer ∙ ap (λ b. not (not b) || false) (stack-open k ks st.scopes.opened st.outer_macros (length st.macros) fits)))

    abbrev StaysBeside : List ℕ → Command → Effect → Type 0
    StaysBeside stack command e = Like N (shut N (scopes_after stack st.commands (act_of st command e)) (after st e)) also

    other_stays : (stack : List ℕ) (command : Command) (e : Effect) → decided st from command ≡ Ok e → Entry N stack st.commands (act_of st command e) → Fits stack st → (not (is_in_scope st) || may_be_in_scope command) ≡ true →
        Like N (shut N stack st) also → StaysBeside stack command e
    other_stays stack (Define name shapes body) e is entry fits may l =
        subst (λ (x : List ℕ). Like N (shut N x (after st e)) also) (sym (plain_level st (Define name shapes body) e (plain_effect st from (Define name shapes body) refl e is) stack st.commands).0)
        (define_stays stack (Define name shapes body) e (define_is st name shapes body e is) entry fits l)
    other_stays stack (Assume name s) e is entry fits may l =
        let k = assume_is st name s e is in
        subst (StaysBeside stack (Assume name s)) (sym k.3) (conclusion-shut N stack st also name (record { formula = k.1; sorry = false }) not_needed fits l)
    other_stays stack (AssumePush name s) e is entry fits may l =
        let k = push_is st name s e is in
        subst (StaysBeside stack (AssumePush name s)) (sym k.1) (push_stays stack name k.0 l)
    other_stays stack (Step s) e is entry fits may l =
        let k = step_is st s e is in
        subst (StaysBeside stack (Step s)) (sym k.2) (conclusion-shut N stack st also s.name k.0 not_needed fits l)
    other_stays stack (StepPop s) e is entry fits may l =
        let k = pop_is st s e is in
        subst (StaysBeside stack (StepPop s)) (sym k.4)
        (pop_stays stack (notes.step_note st s k.2.formula) s.name k.2 k.0 k.1 (subst (λ (x : Effect). Entry N stack st.commands (act_of st (StepPop s) x)) k.4 entry) fits l)
    other_stays stack command e is entry fits may l = plain_stays stack command e (plain_effect st from command refl e is) refl entry fits may

    other_done : (stack : List ℕ) (command : Command) (e : Effect) (what : Next) → decided st from command ≡ Ok e → Entry N stack st.commands (act_of st command e) → Fits stack st → (not (is_in_scope st) || may_be_in_scope command) ≡ true →
        next_by st command ≡ Ok what → what ≡ Done
    unfolding next_by
    other_done stack (Define name shapes body) e what is entry fits may f = sym (next_injective Done what f)
    other_done stack (Assume name s) e what is entry fits may f = sym (next_injective Done what f)
    other_done stack (AssumePush name s) e what is entry fits may f = sym (next_injective Done what f)
    other_done stack (Step s) e what is entry fits may f = sym (next_injective Done what f)
    other_done stack (StepPop s) e what is entry fits may f = sym (next_injective Done what f)
    other_done stack command e what is entry fits may f = plain_stays stack command e (plain_effect st from command refl e is) refl entry fits may

  -- ---- scopes after a command

  nested_after : (stack : List ℕ) (n : ℕ) (act : Act) → Entry N stack n act → Nested N stack → Nested N (scopes_after stack n act)
  nested_after stack n (notes.Opens t) entry h = (entry.inside, h)
  nested_after [] n (Closes note) entry h = tt
  nested_after (k ∷ ks) n (Closes note) entry h = h.1
  nested_after stack n act entry h = h

  drop_each : (ks : List ℕ) → Each N ks → Each N (drop 1 ks)
  drop_each [] h = tt
  drop_each (k ∷ ks) h = h.1

  live_after : (stack : List ℕ) (n : ℕ) (act : Act) → N n ≡ true → Each N stack → Each N (scopes_after stack n act)
  live_after stack n (notes.Opens t) need h = (need, h)
  live_after stack n (Closes note) need h = drop_each stack h
  live_after stack n act need h = h

  -- ---- a command of a file

  -- What a command leaves that is accepted: the run of the needed commands takes it too, or passes over it.
  abbrev pub Beside : Bool → List ℕ → State → State × Next → Origin → Sexp → Type 0
  Beside true stack also r from s = (next : State) × (step also from s ≡ Ok (next, r.1)) × Like N (shut N stack r.0) next
  Beside false stack also r from s = Like N (shut N stack r.0) also × (r.1 ≡ Done)

  pub record Stepped (stack : List ℕ) (also : State) (n : ℕ) (r : State × Next) (from : Origin) (s : Sexp) : Type 0 where
    pub fits : Fits stack r.0
    pub nested : Nested N stack
    pub beside : Beside (N n) stack also r from s

  module _ (stack : List ℕ) (st also : State) (from : Origin) (s : Sexp) (fits : Fits stack st) (nested : Nested N stack) (l : Like N (shut N stack st) also) where
    module _ (command : Command) (e : Effect) (what : Next) (entry : Entry N stack st.commands (act_of st command e)) (shape : command_of (is_in_reference from) s ≡ Ok command)
        (may : (not (is_in_scope st) || may_be_in_scope command) ≡ true) (is : decided st from command ≡ Ok e) (next : next_by st command ≡ Ok what) where
      abbrev next_stack : List ℕ
      next_stack = scopes_after stack st.commands (act_of st command e)

      in_scope_same : Like N st also → is_in_scope also ≡ is_in_scope st
      in_scope_same old = ap is_in_scope old.is ∙ ap (λ n. not (nat_eq n 0)) (depth-kept N st.scopes old.scopes old.facts)

      taken : N st.commands ≡ true → Beside true (scopes_after stack st.commands (act_of st command e)) also (with_command (after st e), what) from s
      taken need =
          let old : Like N st also = subst (λ (x : State). Like N x also) (shut-live N stack st (entry.inside need)) l in
          let goes = needed_goes N st also from command e old need is (entry.premises need) in
          let live = live_after stack st.commands (act_of st command e) need (entry.inside need) in
          let next_also : next_by also command ≡ Ok what = ap (λ x. next_by x command) old.is ∙ next_same old.scopes old.sorry old.commands st command ∙ next in
          let may_also = ap (λ b. not b || may_be_in_scope command) (in_scope_same old) ∙ may in (
            with_command (after also e),
            accepted also from s command e what shape may_also goes.0 next_also,
            like-recount N next_stack (after st e) (after also e) (min ((after st e).commands + 1) (2 ^ 64 - 1)) (min ((after also e).commands + 1) (2 ^ 64 - 1))
                (subst (λ (x : State). Like N x (after also e)) (sym (shut-live N next_stack (after st e) live)) goes.1),
          )

      passed_over : N st.commands ≡ false → Beside false (scopes_after stack st.commands (act_of st command e)) also (with_command (after st e), what) from s
      passed_over not_needed = (
        like-recount N next_stack (after st e) also (min ((after st e).commands + 1) (2 ^ 64 - 1)) also.commands (other_stays st also from not_needed stack command e is entry fits may l),
        other_done st also from not_needed stack command e what is entry fits may next,
      )

      command_stepped : Stepped (scopes_after stack st.commands (act_of st command e)) also st.commands (with_command (after st e), what) from s
      command_stepped = record {
        fits = fits_new stack st from fits command e is;
        nested = nested_after stack st.commands (act_of st command e) entry nested;
        beside = go (N st.commands) refl;
      }
        where
          go : (b : Bool) → N st.commands ≡ b → Beside b (scopes_after stack st.commands (act_of st command e)) also (with_command (after st e), what) from s
          go true h = taken h
          go false h = passed_over h

    pub stepped : (r : State × Next) → Entry N stack st.commands (noted st from s) → step st from s ≡ Ok r → Stepped (scopes_after stack st.commands (noted st from s)) also st.commands r from s
    stepped r entry e =
        let a = accepts st from s r e in
        subst (λ (x : Act). Stepped (scopes_after stack st.commands x) also st.commands r from s) (sym a.noted_is)
        (subst (λ (x : State). Stepped (scopes_after stack st.commands (act_of st a.command a.effect)) also st.commands (x, r.1) from s) (sym a.is)
        (command_stepped a.command a.effect r.1 (subst (Entry N stack st.commands) a.noted_is entry) a.shape a.may a.decides a.next))
