-- What the run of a file, with the files that its commands open, does to a run, where files are known.
use Rattle.std.specs.Prelude.{◌≡◌, ◌≢◌, ℕ, zero, suc, ◌+◌, ◌-◌, ◌≤◌, ◌<◌, Bool, true, false, List, [], ◌∷◌, length, slice_get, position, bytes_eq, IsSome, Option, Some, None, Result, Ok, Err, OnOk, IfErr, ⊤}
use Rattle.eo_base.specs.Checks.{Checked}
use Rattle.eo_base.specs.declared.FaultName.{FaultName}
use Rattle.eo_base.specs.declared.FaultName.TheVariants.{BadPath, FileAbsent}
use Rattle.eo_base.specs.declared.Place.{Place}
use Rattle.eo_base.specs.Limits.{limits}
use Rattle.eo_io.specs.Library.{Files, Rest, file_at}
use Rattle.eo_io.specs.Paths.{fold_path, Extends}
use Rattle.eo_sexp.specs.Spot.{Spot}
use Rattle.eo_sexp.specs.Texts.{Reads, first_spot, spot_after}
use Rattle.eo_sexp.specs.Collecting.{Collecting, new_collector, here_of, IsLive}
use Rattle.eo_sexp.specs.Cutting.{IsWaiting}
use Rattle.eo_sexp.specs.Answering.{end_of}
use Rattle.eo_session.specs.State.{State}
use Rattle.eo_session.specs.Notes as notes
use Rattle.eo_run.specs.Run.{Progress, Stopped, Ran, Opener, commands_of, open_nothing, open_file, included_runner, run_commands}
use Rattle.eo_run.specs.Progress.{Point, progress_at, SeesAt}
use Rattle.eo_run.specs.Reading.{Continuation, behind, at_end, Leads, Finishes, Fails, Passes}
use Rattle.eo_run.specs.Seen.{Seen}
use Rattle.eo_session.specs.Origin.{Origin}
use Rattle.eo_session.specs.Origin as origin
use Rattle.eo_run.specs.Answer.{Denotes}
use Rattle.eo_session.specs.Numbered.{origin_of, number_of}
use Rattle.eo_session.specs.declared.Next.{Next}
use Rattle.eo_session.specs.declared.Next.TheVariants as next
use Rattle.eo_run.specs.declared.Verdict.{Verdict}
use Rattle.eo_run.specs.declared.Verdict.TheVariants as answer
use Rattle.eo_run.specs.declared.opening.Run.{Run}
use Rattle.eo_run.specs.declared.opening.Source.{Source}
use Rattle.eo_run.specs.declared.reading.Stop.{Stop}
use Rattle.eo_run.specs.declared.reading.Stop.TheVariants as stop

-- ---- a file that is run

-- its number is that of its path
abbrev pub IsNumbered : List (List ℕ) → Source → Type 0
IsNumbered paths s = position (bytes_eq s.path.now) paths ≡ Some (number_of s.from)

-- what its commands may open: nothing, or a reference file and files that may be included
abbrev pub opener_of : Files → (opens : ℕ) → Opener
opener_of files zero = open_nothing
opener_of files (suc left) = open_file files (included_runner files left)

abbrev pub run_source : Files → Source → Reads → Progress → Ran
run_source files s reads p = run_commands (opener_of files s.opens) s.path.now (origin_of s.from) reads p

abbrev pub LeadsIn : Files → Source → (old new : Progress) → (r t : Continuation) → Type 0
LeadsIn files s old new r t = Leads (opener_of files s.opens) s.path.now (origin_of s.from) old new r t

abbrev pub FailsIn : Files → Source → Progress → Continuation → Stopped → Type 0
FailsIn files s old r stopped = Fails (opener_of files s.opens) s.path.now (origin_of s.from) old r stopped

abbrev pub FinishesIn : Files → Source → (old new : Progress) → Continuation → Type 0
FinishesIn files s old new r = Finishes (opener_of files s.opens) s.path.now (origin_of s.from) old new r

-- where files are known
abbrev pub Told : Option Files → (Files → Type 0) → Type 0
Told told P = (files : Files) → told ≡ Some files → P files

-- ---- what is returned for a run that stops

-- The run ends with the refusal that the verdict represents, and this holds of the commands that were accepted before.
abbrev pub StopsAs : (Stopped → Type 0) → (List Seen → Type 0) → List (List ℕ) → Verdict → Type 0
StopsAs Stops Holds paths (answer.Refused fault) = (stopped : Stopped) × Stops stopped × Denotes paths fault stopped.refusal × Holds stopped.seen
StopsAs Stops Holds paths answer.ReadFault = ⊤
StopsAs Stops Holds paths answer.OutOfMemory = ⊤
StopsAs Stops Holds paths v = ⊥

-- A verdict of a run that stops. The file of a refusal is one of the paths.
abbrev pub IsStop : List (List ℕ) → Verdict → Type 0
IsStop paths answer.Correct = ⊥
IsStop paths answer.Incomplete = ⊥
IsStop paths (answer.Loaded commands) = ⊥
IsStop paths (answer.Refused fault) = IsSome (slice_get paths fault.place.file)
IsStop paths answer.ReadFault = ⊤
IsStop paths answer.OutOfMemory = ⊤

-- ---- calls that run files

-- What such a call needs: where so many files are open, with its own, there is room for those inside it, the session goes on, and the file has its number.
pub record IsReady (count : ℕ) (s : Source) (run : Run) (paths : List (List ℕ)) : Type 0 where
  pub room : count + s.opens < 19
  pub going : run.session.ended ≡ false
  pub numbered : IsNumbered paths s

-- What it keeps: the session goes on where it does not stop, its verdict where it does is one for that, and each path has its number.
pub record Keeps {A : Type 0} (result : Result A Verdict) (run : Run) (before after : List (List ℕ)) : Type 0 where
  pub going : OnOk result (run.session.ended ≡ false)
  pub kind : IfErr result (IsStop after)
  pub table : Extends before after

-- the place in the file
abbrev pub place_in : Source → Spot → Place
place_in s at = record { file = number_of s.from; line = at.line; offset = at.offset }

abbrev pub refused_at : FaultName → Source → Spot → Verdict
refused_at name s at = answer.Refused (record { name = name; place = place_in s at })

-- what is returned for a file that is there, by how its run ends
abbrev pub as_found : Result Spot Verdict → Result (Option Spot) Verdict
as_found (Ok at) = Ok (Some at)
as_found (Err v) = Err v

-- and for a command at this place that names a file
abbrev pub opened_at : Result (Option Spot) Verdict → Source → Spot → Result (Unit {0}) Verdict
opened_at (Ok (Some end)) s at = Ok tt
opened_at (Ok None) s at = Err (refused_at FileAbsent s at)
opened_at (Err v) s at = Err v

-- the verdict of a file that is not read to its end
abbrev pub stop_verdict : Stop → Source → Verdict
stop_verdict (stop.Fault name at) s = refused_at name s at
stop_verdict stop.ReadFault s = answer.ReadFault
stop_verdict stop.Memory s = answer.OutOfMemory

-- The path of the file that is named here is found, or it is none.
abbrev pub FoldsHere : Source → Spot → (name : List ℕ) → Result (List ℕ) Verdict → Type 0
FoldsHere s at name (Ok file) = fold_path s.path.now name ≡ Some file
FoldsHere s at name (Err answer.OutOfMemory) = ⊤
FoldsHere s at name (Err v) = (fold_path s.path.now name ≡ None) × (v ≡ refused_at BadPath s at)

-- The reference file that is named here begins, or its fault is one here.
abbrev pub BeginsHere : Source → Spot → Result (Unit {0}) Verdict → Checked State → (new : State) → Type 0
BeginsHere s at (Ok x) m new = m ≡ Ok new
BeginsHere s at (Err answer.OutOfMemory) m new = ⊤
BeginsHere s at (Err v) m new = (name : FaultName) × (m ≡ Err name) × (v ≡ refused_at name s at)

-- ---- files inside

-- i is this file as one that s includes: of the same origin, and with one less that may be open inside it.
pub record IsIncluded (s : Source) (file : List ℕ) (number : ℕ) (i : Source) : Type 0 where
  pub path : i.path.now ≡ file
  pub same : origin_of i.from ≡ origin_of s.from
  pub numbered : number_of i.from ≡ number
  pub plain : i.wrapped ≡ false
  pub opens : i.opens ≡ s.opens - 1

-- This holds unless it is a reference file, which may end before its last byte, by a command.
abbrev pub IfWhole : Origin → Type 0 → Type 0
IfWhole from P = from ≢ origin.Reference → P

-- ---- runs

-- what a command asks for
abbrev pub opens_in : Files → Source → Spot → Next → Progress → Ran
opens_in files s at what p = opener_of files s.opens s.path.now (origin_of s.from) at what p

-- the run of these bytes of the source
abbrev pub run_bytes : Files → Source → List ℕ → Progress → Ran
run_bytes files s bytes p = run_source files s (commands_of s.wrapped bytes) p

-- The file of the source is there, and its run is refused.
abbrev pub RefusesFile : Files → Source → Progress → Stopped → Type 0
RefusesFile files s p stopped = (bytes : List ℕ) × (file_at files s.path.now ≡ Some bytes) × (run_bytes files s bytes p ≡ Err stopped)

-- ---- from one point to another

module _ {O : Type 0} (tells : O → List notes.Seen → Type 0) where
  -- Whatever was accepted before and seen, the run from the first point ends at the second, and what was accepted is seen.
  abbrev pub Reaches : (old new : Point O) → (Progress → Ran) → Type 0
  Reaches old new run = (seen : List Seen) → SeesAt tells old seen → (all : List Seen) × SeesAt tells new all × (run (progress_at old seen) ≡ Ok (progress_at new all))

  -- nothing more is accepted
  abbrev pub StillSees : (old new : Point O) → Type 0
  StillSees old new = (seen : List Seen) → SeesAt tells old seen → SeesAt tells new seen

  -- or it is refused, with this verdict
  abbrev pub Refuses : (old new : Point O) → Verdict → (Progress → Stopped → Type 0) → Type 0
  Refuses old new v Stops = (seen : List Seen) → SeesAt tells old seen → StopsAs (Stops (progress_at old seen)) (SeesAt tells new) new.paths v

  abbrev pub Runs : (old new : Point O) → Result (Unit {0}) Verdict → (Progress → Ran) → Type 0
  Runs old new (Ok x) run = Reaches old new run
  Runs old new (Err v) run = Refuses old new v (λ p stopped. run p ≡ Err stopped)

  -- ---- what a command asks for

  abbrev pub Opens : Option Files → Source → Spot → Next → Result (Unit {0}) Verdict → (old new : Point O) → Type 0
  Opens told s at what result old new = Told told (λ files. Runs old new result (opens_in files s at what))

  -- the same of a command that includes the file of this path, or refers to it
  abbrev pub IncludesAt : Option Files → Source → Spot → (file : List ℕ) → Result (Unit {0}) Verdict → (old new : Point O) → Type 0
  IncludesAt told s at file result old new = (name : List ℕ) → fold_path s.path.now name ≡ Some file → Opens told s at (next.Include name) result old new

  abbrev pub RefersAt : Option Files → Source → Spot → (file : List ℕ) → Result (Unit {0}) Verdict → (old new : Point O) → Type 0
  RefersAt told s at file result old new = (name : List ℕ) → fold_path s.path.now name ≡ Some file → Opens told s at (next.Reference name) result old new

  -- ---- a piece, and the end

  -- the run of r leads on to that of t
  abbrev pub GoesOn : Files → Source → (old new : Point O) → (r t : Continuation) → Type 0
  GoesOn files s old new r t = (seen : List Seen) → SeesAt tells old seen → (all : List Seen) × SeesAt tells new all × LeadsIn files s (progress_at old seen) (progress_at new all) r t

  abbrev pub ComesToEnd : Files → Source → (old new : Point O) → Continuation → Type 0
  ComesToEnd files s old new r = (seen : List Seen) → SeesAt tells old seen → (all : List Seen) × SeesAt tells new all × FinishesIn files s (progress_at old seen) (progress_at new all) r

  abbrev pub IsFailing : Files → Source → (old new : Point O) → Continuation → Verdict → Type 0
  IsFailing files s old new r v = Refuses old new v (λ p stopped. FailsIn files s p r stopped)

  pub record IsTaken (told : Option Files) (s : Source) (old new : Point O) (c d : Collecting) (piece : List ℕ) : Type 0 where
    pub leads : Told told (λ files. GoesOn files s old new (behind c piece) (behind d []))
    pub live : IsLive d
    pub waiting : IsWaiting limits d
    pub here : (here_of d).offset ≤ (here_of c).offset + length piece

  -- The file ends with a command of the piece.
  pub record IsLeft (told : Option Files) (s : Source) (old new : Point O) (c : Collecting) (piece : List ℕ) : Type 0 where
    pub finishes : Told told (λ files. ComesToEnd files s old new (behind c piece))
    pub reference : origin_of s.from ≡ origin.Reference

  -- The piece is taken, or the file ends in it.
  abbrev pub TakesPiece : Option Files → Source → Result Bool Verdict → (old new : Point O) → (c d : Collecting) → List ℕ → Type 0
  TakesPiece told s (Ok true) old new c d piece = IsTaken told s old new c d piece
  TakesPiece told s (Ok false) old new c d piece = IsLeft told s old new c piece
  TakesPiece told s (Err v) old new c d piece = Told told (λ files. IsFailing files s old new (behind c piece) v)

  -- at this place
  abbrev pub EndsAt : Files → Source → Spot → (old new : Point O) → Collecting → Type 0
  EndsAt files s at old new c = (seen : List Seen) → SeesAt tells old seen → (all : List Seen) × SeesAt tells new all
      × FinishesIn files s (progress_at old seen) (progress_at new all) (at_end c) × IfWhole (origin_of s.from) (end_of (at_end c true []) ≡ Some at)

  abbrev pub TakesEnd : Option Files → Source → Result Spot Verdict → (old new : Point O) → Collecting → Type 0
  TakesEnd told s (Ok at) old new c = Told told (λ files. EndsAt files s at old new c)
  TakesEnd told s (Err v) old new c = Told told (λ files. IsFailing files s old new (at_end c) v)

  -- ---- a file

  -- How far a file is read.
  pub record IsRead (told : Option Files) (s : Source) (old new : Point O) (c : Collecting) (left : ℕ) (before after : List Rest) : Type 0 where
    pub bytes : List ℕ
    pub count : length bytes + left ≡ limits.file
    pub passes : Passes before bytes after
    pub taken : IsTaken told s old new (new_collector s.wrapped) c bytes

  abbrev pub RunsBytes : Files → Source → Result Spot Verdict → (old new : Point O) → List ℕ → Type 0
  RunsBytes files s (Ok at) old new bytes = (seen : List Seen) → SeesAt tells old seen → (all : List Seen) × SeesAt tells new all
      × (run_bytes files s bytes (progress_at old seen) ≡ Ok (progress_at new all)) × IfWhole (origin_of s.from) (at ≡ spot_after first_spot bytes)
  RunsBytes files s (Err v) old new bytes = Refuses old new v (λ p stopped. run_bytes files s bytes p ≡ Err stopped)

  -- the file opened last is run to its end, where its rest is known
  abbrev pub RunsOpen : Option Files → Source → Result Spot Verdict → (old new : Point O) → List Rest → Type 0
  RunsOpen told s result old new [] = ⊥
  RunsOpen told s result old new (None ∷ others) = ⊤
  RunsOpen told s result old new (Some bytes ∷ others) = Told told (λ files. RunsBytes files s result old new bytes)

  -- The file of the source is absent, or it is run to its end, or the result is the verdict of its refusal.
  abbrev pub RunsFile : Option Files → Source → Result (Option Spot) Verdict → (old new : Point O) → Type 0
  RunsFile told s (Ok None) old new = Told told (λ files. (file_at files s.path.now ≡ None) × StillSees old new)
  RunsFile told s (Ok (Some at)) old new = Told told (λ files. (bytes : List ℕ) × (file_at files s.path.now ≡ Some bytes) × RunsBytes files s (Ok at) old new bytes)
  RunsFile told s (Err v) old new = Told told (λ files. Refuses old new v (RefusesFile files s))
