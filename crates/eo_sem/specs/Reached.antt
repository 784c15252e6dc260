-- The states that a session comes to by commands whose rules are allowed.
use Rattle.std.specs.Prelude.{◌≡◌, ◌≢◌, ℕ, Bool, true, List, Ok}
use Rattle.eo_session.specs.Commands.{step}
use Rattle.eo_session.specs.Origin.{Origin, Signature}
use Rattle.eo_session.specs.State.{State, begin_reference}
use Rattle.eo_session.specs.declared.Next.{Next}
use Rattle.eo_sexp.specs.Sexp.{Sexp}
use Rattle.eo_sound.specs.RulesUsed.{may_use, sexp_rule}

-- A state is reached from the first one by the beginning of a reference file, and by accepted commands of a proof or of a reference file, each of which uses no rule or one whose name passes the test.
pub data ReachedBy (allowed : List ℕ → Bool) (first : State) : State → Type 0 where
  is_first : ReachedBy allowed first first
  begins : {st new : State} → ReachedBy allowed first st → begin_reference st ≡ Ok new → ReachedBy allowed first new
  accepts : {st new : State} (from : Origin) (s : Sexp) (next : Next) → ReachedBy allowed first st → from ≢ Signature → may_use allowed (sexp_rule from s) ≡ true → step st from s ≡ Ok (new, next) → ReachedBy allowed first new
