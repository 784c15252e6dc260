-- The state after some commands, where each is accepted and uses no rule or one that keeps truth.
use Rattle.std.specs.Prelude.{◌≡◌, Bool, true, false, Option, Some, None, option_and_then, Ok, Err, refl}
use Rattle.std.proofs.Common.{subst}
use Rattle.std.proofs.lemmas.Option.{none-some, same_Some}
use Rattle.eo_base.specs.Checks.{Checked}
use Rattle.eo_sem.specs.SemanticRules.{is_semantic}
use Rattle.eo_session.specs.Commands.{step}
use Rattle.eo_session.specs.Origin.{Origin}
use Rattle.eo_session.specs.State.{State}
use Rattle.eo_session.specs.declared.Next.{Next}
use Rattle.eo_sexp.specs.Sexp.{Sexp}
use Rattle.eo_sexp.specs.Texts.{Reads, Then, Ends, Fails}
use Rattle.eo_sound.specs.RulesUsed.{may_use, sexp_rule}

abbrev accepted : Bool → Checked (State × Next) → Option State
accepted true (Ok r) = Some r.0
accepted true (Err fault) = None
accepted false answer = None

-- after the commands of a file that is read to its end
abbrev pub after_all : Origin → Reads → State → Option State
after_all from (Ends at) st = Some st
after_all from (Fails name at) st = None
after_all from (Then c others) st =
    option_and_then (after_all from others) (accepted (may_use is_semantic (sexp_rule from c.sexp)) (step st from c.sexp))

-- of a state that is there
abbrev pub IfThere : (State → Type 0) → Option State → Type 0
IfThere P o = (st : State) → o ≡ Some st → P st

pub then_there : (P : State → Type 0) (o : Option State) (go : State → Option State) → IfThere P o → ((st : State) → P st → IfThere P (go st)) → IfThere P (option_and_then go o)
then_there P (Some st) go h more new e = more st (h st refl) new e
then_there P None go h more new e = absurd (none-some new e)

accepted_there : (P : State → Type 0) (b : Bool) (m : Checked (State × Next)) → (b ≡ true → (r : State × Next) → m ≡ Ok r → P r.0) → IfThere P (accepted b m)
accepted_there P true (Ok r) h new e = subst P (same_Some r.0 new e) (h refl r refl)
accepted_there P true (Err fault) h new e = absurd (none-some new e)
accepted_there P false m h new e = absurd (none-some new e)

-- What each such command keeps holds there.
module _ (P : State → Type 0) (from : Origin) (keeps : (st : State) (s : Sexp) (r : State × Next) → P st → may_use is_semantic (sexp_rule from s) ≡ true → step st from s ≡ Ok r → P r.0) where
  pub all_there : (reads : Reads) (st : State) → P st → IfThere P (after_all from reads st)
  all_there (Ends at) st h new e = subst P (same_Some st new e) h
  all_there (Fails name at) st h new e = absurd (none-some new e)
  all_there (Then c others) st h new e =
      then_there P (accepted (may_use is_semantic (sexp_rule from c.sexp)) (step st from c.sexp)) (after_all from others)
      (accepted_there P (may_use is_semantic (sexp_rule from c.sexp)) (step st from c.sexp) (λ may r e. keeps st c.sexp r h may e))
      (all_there others) new e
