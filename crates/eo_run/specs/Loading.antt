-- What a load returns, and one whose session is kept.
use Rattle.std.specs.Prelude.{◌≡◌, ℕ, false, List, [], Option, Some, IsSome, Result, Ok, Err, slice_get, ⊤}
use Rattle.eo_base.specs.declared.Place.{Place}
use Rattle.eo_io.specs.Library.{Files}
use Rattle.eo_session.specs.Origin.{Signature}
use Rattle.eo_session.specs.State.{State}
use Rattle.eo_session.specs.Stepping.{Standing}
use Rattle.eo_session.specs.Notes as notes
use Rattle.eo_run.specs.Seen.{Seen}
use Rattle.eo_run.specs.Progress.{Point, progress_at, SeesAt}
use Rattle.eo_run.specs.Run.{Progress, run_load, shown}
use Rattle.eo_run.specs.Check.{file_end}
use Rattle.eo_run.specs.Answer.{AnswerHasCause}
use Rattle.eo_run.specs.Judging.{EndsRun}
use Rattle.eo_run.specs.Opening.{Told, StopsAs, IsStop}
use Rattle.eo_run.specs.declared.LoadEnd.{LoadEnd}
use Rattle.eo_run.specs.declared.LoadEnd.TheVariants as ends
use Rattle.eo_run.specs.declared.Verdict.{Verdict}

-- From its beginning, where nothing was accepted, the file is run to its end, which is this place, or the result is that of its refusal.
abbrev pub RunsLoad : {O : Type 0} → (O → List notes.Seen → Type 0) → Option Files → (name : List ℕ) → Result Place Verdict → (old new : Point O) → Type 0
RunsLoad tells told name (Ok place) old new =
    Told told (λ files. SeesAt tells old [] → (all : List Seen) × SeesAt tells new all × EndsRun files name Signature (run_load files name) (progress_at new all) new.paths place)
RunsLoad tells told name (Err v) old new = Told told (λ files. SeesAt tells old [] → StopsAs (λ stopped. run_load files name ≡ Err stopped) (SeesAt tells new) new.paths v)

-- ---- a load whose session is kept

-- The file is run to its end, in this state and at this place.
pub record EndsLoad (files : Files) (name : List ℕ) (st : State) (paths : List (List ℕ)) (place : Place) : Type 0 where
  pub last : Progress
  pub runs : run_load files name ≡ Ok last
  pub state : st ≡ last.state
  pub file : slice_get paths place.file ≡ Some (shown name)
  pub line : place.line ≡ (file_end files name).line
  pub offset : place.offset ≡ (file_end files name).offset

-- The session is in the state at the end of the file, or the result is that of its refusal.
abbrev pub AnswersSession : Option Files → (name : List ℕ) → List (List ℕ) → LoadEnd → Type 0
AnswersSession told name paths (ends.Ready session place) = Told told (λ files. EndsLoad files name session.state paths place)
AnswersSession told name paths (ends.Ended v) = Told told (λ files. StopsAs (λ stopped. run_load files name ≡ Err stopped) (λ seen. ⊤) paths v)

-- The session goes on, and the place is in one of the paths, or it is a result for a run that stops.
abbrev pub IsLoadEnd : List (List ℕ) → LoadEnd → Type 0
IsLoadEnd paths (ends.Ready session place) = (session.ended ≡ false) × IsSome (slice_get paths place.file)
IsLoadEnd paths (ends.Ended v) = IsStop paths v

-- why a load gives up, and why a file is absent where the library's files are not known
abbrev pub LoadHasCause : {F : Type 0} → LoadEnd → Option F → (before now : ℕ) → Type 0
LoadHasCause (ends.Ready session place) told before now = ⊤
LoadHasCause (ends.Ended v) told before now = AnswerHasCause v told before now

-- what is returned, with the session of a run that ends so
abbrev pub as_loaded : Standing → Result Place Verdict → LoadEnd
as_loaded session (Ok place) = ends.Ready session place
as_loaded session (Err v) = ends.Ended v
