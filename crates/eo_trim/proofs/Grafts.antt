-- Commands that look at no facts do to a state with other facts what they do to the first.
use Rattle.std.specs.Prelude.{◌≡◌, ℕ, Bool, true, false, if◌then◌else◌, [], ◌∷◌, ◌++◌, refl}
use Rattle.std.proofs.Common.{ap, true≢false}
use Rattle.eo_term.specs.Tree.{Tree}
use Rattle.eo_proof.specs.Scopes.{Scopes}
use Rattle.eo_shape.specs.Shapes.{Command, Assume, AssumePush, Step, StepPop, Refer}
use Rattle.eo_session.specs.State.{State, is_asserted, with_assertion}
use Rattle.eo_session.specs.Step.{with_named_terms, evaluated, formula_of, type_value}
use Rattle.eo_session.specs.Commands.{next_by, reference_path}
use Rattle.eo_session.specs.Decisions.{decided}
use Rattle.eo_session.specs.Effects.{Effect, Declares, Defines, Asserts, Opens, Adds, Nothing, after}
use Rattle.eo_session.specs.Origin.{Origin}
use Rattle.eo_trim.proofs.Acts.{sees_facts, IsPlain}

module _ (scopes : Scopes) (sorry : Bool) (commands : ℕ) where
  -- the state with other facts
  abbrev pub graft : State → State
  graft st = record st { scopes = scopes; sorry = sorry; commands = commands }

  pub plain_same : (st : State) (from : Origin) (command : Command) → sees_facts command ≡ false → decided (graft st) from command ≡ decided st from command
  unfolding type_value formula_of evaluated
  plain_same st from (Assume name s) e = absurd (true≢false e)
  plain_same st from (AssumePush name s) e = absurd (true≢false e)
  plain_same st from (Step shape) e = absurd (true≢false e)
  plain_same st from (StepPop shape) e = absurd (true≢false e)
  plain_same st from command e = refl

  asserted-graft : (st : State) (t : Tree) → with_assertion (graft st) t ≡ graft (with_assertion st t)
  asserted-graft st t = go (is_asserted st t)
    where
      go : (b : Bool) → (if b then graft st else record (graft st) { assertions = st.assertions ++ t ∷ [] }) ≡ graft (if b then st else record st { assertions = st.assertions ++ t ∷ [] })
      go true = refl
      go false = refl

  pub plain_after : (st : State) (e : Effect) → IsPlain e → after (graft st) e ≡ graft (after st e)
  plain_after st (Asserts t names) h = ap (λ x. with_named_terms x names) (asserted-graft st t)
  plain_after st (Declares entry) h = refl
  plain_after st (Defines m) h = refl
  plain_after st (Opens name t) h = absurd h
  plain_after st (Adds name k closes) h = absurd h
  plain_after st Nothing h = refl

  pub next_same : (st : State) (command : Command) → next_by (graft st) command ≡ next_by st command
  unfolding next_by reference_path
  next_same st (Refer written) = refl
  next_same st command = refl
