-- What the commands of a session keep, where only rules that preserve truth are used.
use Rattle.std.specs.Prelude.{◌≡◌, ◌≢◌, Bool, true, false, None, Ok}
use Rattle.eo_rule.specs.ByRules.{DerivesBy}
use Rattle.eo_session.specs.Commands.{step}
use Rattle.eo_session.specs.Origin.{Origin, Signature}
use Rattle.eo_session.specs.State.{State, first_state, begin_reference, end_fault}
use Rattle.eo_session.specs.declared.Next.{Next}
use Rattle.eo_sexp.specs.Sexp.{Sexp}
use Rattle.eo_sound.specs.Quiet.{IsQuiet}
use Rattle.eo_sound.specs.RulesUsed.{may_use, sexp_rule}
use Rattle.eo_sound.specs.Soundness.{IsSoundBy}
use Rattle.eo_term.specs.Tree.{truth}
use Rattle.eo_sem.specs.SemanticRules.{is_semantic}

pub record CommandLaws : Type 0 where
  pub first : (closed : Bool) → IsSoundBy is_semantic (first_state closed)
  pub begin : (st new : State) → IsSoundBy is_semantic st → begin_reference st ≡ Ok new → IsSoundBy is_semantic new
  pub command : (st : State) (from : Origin) (s : Sexp) (r : State × Next) → IsSoundBy is_semantic st → may_use is_semantic (sexp_rule from s) ≡ true → step st from s ≡ Ok r → IsSoundBy is_semantic r.0
  pub end : (st : State) → IsSoundBy is_semantic st → end_fault st ≡ None → st.sorry ≡ false → DerivesBy is_semantic st.signature st.assertions (truth false)
  pub stays : (st : State) (from : Origin) (s : Sexp) (r : State × Next) → step st from s ≡ Ok r → r.0.closed ≡ st.closed
  pub quiet : (st : State) (from : Origin) (s : Sexp) (r : State × Next) → st.closed ≡ true → from ≢ Signature → step st from s ≡ Ok r → IsQuiet st r.0
