-- What a command is by where it is, and the result for it.
use Rattle.std.proofs.Common.{◌≡◌, refl, Bool, true, false, not, ◌||◌, sym, subst, ◌∙◌, true≢false}
use Rattle.std.specs.Prelude.{Result, Ok, Err}
use Rattle.std.specs.Result.{IsErrAnd}
use Rattle.eo_base.specs.declared.FaultName.{FaultName}
use Rattle.eo_base.specs.declared.FaultName.TheVariants.{FileAbsent, InScope}
use Rattle.eo_base.specs.Checks.{Checked}
use Rattle.eo_sexp.specs.Sexp.{Sexp}
use Rattle.eo_shape.specs.Shapes.{Command, command_of}
use Rattle.eo_shape.specs.Reading as shapes
use Rattle.eo_shape.specs.declared.ShapeRefused.{ShapeRefused}
use Rattle.eo_shape.specs.declared.ShapeRefused.TheVariants as shape
use Rattle.eo_session.specs.State.{State, is_in_scope}
use Rattle.eo_session.specs.Step.{is_in_reference}
use Rattle.eo_session.specs.Commands.{may_be_in_scope, placed_command, uncounted}
use Rattle.eo_session.specs.Decisions.{scoped_decision}
use Rattle.eo_session.specs.Stepping.{Refuses, UpdatesNext, Standing, StepsTo}
use Rattle.eo_session.specs.declared.Next.{Next}
use Rattle.eo_session.specs.declared.store.Store.{Store}
use Rattle.eo_session.specs.declared.refused.Refused.{Refused}
use Rattle.eo_session.specs.declared.refused.Refused.TheVariants as refused
use Rattle.eo_base.proofs.Answering.{at_exit}
use Rattle.eo_session.proofs.Sessions.{shape-fault, shape-ok, scope-fault}
use Rattle.eo_session.specs.Origin.{Origin}

-- ---- each command

module _ (st : State) (from : Origin) (s : Sexp) (b : Bool) (e : b ≡ is_in_reference from) (r : Result Next Refused) (new : Store) where
  pub does-shape : (x : ShapeRefused) → command_of b s ≡ Err (shapes.fault_of x) → IsErrAnd r (λ y. y ≡ refused.Fault (shapes.fault_of x)) → UpdatesNext r (uncounted st from s) new
  does-shape x h i = at_exit (λ (r : Result Next Refused). UpdatesNext r (uncounted st from s) new) r (refused.Fault (shapes.fault_of x)) i (shape-fault st from s b e (shapes.fault_of x) h, present x)
    where
      present : (x : ShapeRefused) → shapes.fault_of x ≡ FileAbsent → ⊥
      present shape.UnknownCommand q = absurd cc
      present shape.BadCommand q = absurd cc

  pub does-command : (k : Command) → command_of b s ≡ Ok k → UpdatesNext r (placed_command st from k) new → UpdatesNext r (uncounted st from s) new
  does-command k h d = subst (λ (m : Checked (State × Next)). UpdatesNext r m new) (sym (shape-ok st from s b e k h)) d

pub does-in_scope : (st : State) (from : Origin) (k : Command) (b : Bool) → b ≡ (not (is_in_scope st) || may_be_in_scope k) → b ≡ false → Refuses (scoped_decision st from k) (refused.Fault InScope)
does-in_scope st from k b e h = (scope-fault st from k (sym e ∙ h), λ q. absurd cc)

-- ---- what ends a session

pub steps-refused : (x : Refused) (m n : Checked (State × Next)) (old new : Standing) → old.ended ≡ false → new.ended ≡ true → Refuses m x → ((name : FaultName) → m ≡ Err name → n ≡ Err name) → StepsTo (Err x) n old new
steps-refused (refused.Fault name) m n old new o e h f = (o, f name h.0, e)
steps-refused refused.Ended m n old new o e h f = absurd h.1
steps-refused (refused.Memory a) m n old new o e h f = (o, e)

-- ---- where no scope is open

-- a command that may be, and not in a scope, is outside all
pub not_in_scope : (a b : Bool) → (not a || b) ≡ true → b ≡ false → a ≡ false
not_in_scope true true e h = absurd (true≢false h)
not_in_scope true false e h = absurd (true≢false (sym e))
not_in_scope false b e h = refl
