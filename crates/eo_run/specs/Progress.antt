-- How far a run is, as the code has it.
use Rattle.std.specs.Prelude.{◌≡◌, false, List, [], ℕ}
use Rattle.eo_session.specs.Notes as notes
use Rattle.eo_session.specs.State.{State}
use Rattle.eo_run.specs.Run as run
use Rattle.eo_run.specs.Seen.{Seen}
use Rattle.eo_run.specs.Watching.{Sees}
use Rattle.eo_run.specs.declared.opening.Run.{Run}

-- where these commands were accepted
abbrev pub progress_of : Run → List Seen → run.Progress
progress_of r seen = record { state = r.session.state; included = r.included; opened = r.opened; seen = seen }

-- nothing was opened, and nothing accepted
abbrev pub begun : State → List (List ℕ) → run.Progress
begun st included = record { state = st; included = included; opened = []; seen = [] }

-- it goes on from here, and nothing was accepted
pub record Begins (r : Run) (p : run.Progress) : Type 0 where
  pub going : r.session.ended ≡ false
  pub is : progress_of r p.seen ≡ p

-- A run, with its observer and the table of paths.
pub record Point (O : Type 0) : Type 0 where
  pub run : Run
  pub observer : O
  pub paths : List (List ℕ)

abbrev pub point : {O : Type 0} → Run → O → List (List ℕ) → Point O
point run observer paths = record { run = run; observer = observer; paths = paths }

abbrev pub progress_at : {O : Type 0} → Point O → List Seen → run.Progress
progress_at w seen = progress_of w.run seen

-- the observer has seen these commands
abbrev pub SeesAt : {O : Type 0} → (O → List notes.Seen → Type 0) → Point O → List Seen → Type 0
SeesAt tells w seen = Sees tells w.observer w.paths seen
