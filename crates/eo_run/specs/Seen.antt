-- What a run keeps of an accepted command.
use Rattle.std.specs.Prelude.{ℕ, Bool, List, Ok, Err}
use Rattle.eo_base.specs.Checks.{Checked}
use Rattle.eo_sexp.specs.Sexp.{Sexp}
use Rattle.eo_sexp.specs.Spot.{Spot}
use Rattle.eo_session.specs.Decisions.{placed_decision}
use Rattle.eo_session.specs.Effects.{Effect}
use Rattle.eo_session.specs.Notes.{Act, Other, act_of}
use Rattle.eo_session.specs.Origin.{Origin}
use Rattle.eo_session.specs.State.{State}
use Rattle.eo_session.specs.Step.{is_in_reference}
use Rattle.eo_session.specs.declared.Next.{Next}
use Rattle.eo_shape.specs.Shapes.{Command, command_of}

-- ---- what a command does that is accepted in this state

-- by what is decided of it
abbrev pub act_decided : State → Command → Checked (Effect × Next) → Act
act_decided st command (Ok r) = act_of st command r.0
act_decided st command (Err fault) = Other

-- by its shape
abbrev pub act_by : State → Origin → Checked Command → Act
act_by st from (Ok command) = act_decided st command (placed_decision st from command)
act_by st from (Err fault) = Other

-- by its s-expression
unfoldable pub noted : State → Origin → Sexp → Act
noted st from s = act_by st from (command_of (is_in_reference from) s)

-- An accepted command: its bytes, the path of its file and its place there, how many commands were accepted before it, whether it is in a reference file, how many scopes are open before it, and what it does.
pub record Seen : Type 0 where
  pub bytes : List ℕ
  pub file : List ℕ
  pub start : Spot
  pub number : ℕ
  pub from_reference : Bool
  pub depth : ℕ
  pub act : Act
