-- The run of the suite.
use Rattle.std.specs.Prelude.{◌≡◌, refl, ℕ, true, false, List, [], Option, Some, None, Ok, Err}
use Rattle.eo_cpc.specs.Suite.{suite}
use Rattle.eo_io.specs.Library.{Files}
use Rattle.eo_run.specs.Run.{Ran, Runner, commands_of, run_file}
use Rattle.eo_run.proofs.Computed.{computed}
use Rattle.eo_sem.proofs.Accepted.{after_all}
use Rattle.eo_sem.specs.Suite.{suite_state}
use Rattle.eo_session.specs.Origin as origin
use Rattle.eo_session.specs.State.{State, first_state}

abbrev pub state_after : Ran → Option State
state_after (Ok p) = Some p.state
state_after (Err refusal) = None

-- Whatever its path, and whatever was included before, the suite runs to its end, and gives its signature.
pub suite_runs : (files : Files) (deeper : Option Runner) (path : List ℕ) (included : List (List ℕ)) → state_after (run_file files deeper false path origin.Signature suite (record { state = first_state true; included = included; opened = []; seen = [] })) ≡ Some suite_state
unfolding computed suite suite_state
suite_runs files deeper path included = refl

-- its commands alone, which use no rule
pub suite_after : after_all origin.Signature (commands_of false suite) (first_state true) ≡ Some suite_state
unfolding computed suite suite_state
suite_after = refl
