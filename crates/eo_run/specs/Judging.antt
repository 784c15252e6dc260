-- The result for the files of a job.
use Rattle.std.specs.Prelude.{◌≡◌, ℕ, ◌≤◌, Bool, true, false, List, [], Option, Some, IfSome, IsSome, Result, Ok, Err, slice_get, option_map, ⊤}
use Rattle.std.specs.Borrow.{Bor}
use Rattle.eo_base.specs.Checks.{Checked}
use Rattle.eo_base.specs.declared.FaultName.{FaultName}
use Rattle.eo_base.specs.declared.Place.{Place}
use Rattle.eo_sexp.specs.Texts.{first_spot}
use Rattle.eo_io.specs.Library.{Files, Rest}
use Rattle.eo_io.specs.Paths.{with_path}
use Rattle.eo_session.specs.Notes as notes
use Rattle.eo_run.specs.Run.{Progress, Ran, ◌>>=◌, refusal_at, shown, seen_in, commands_of, run_commands, job_file, if_given, run_signature, run_job_reference, run_proof, run_prelude, run_check_after}
use Rattle.eo_run.specs.Check.{file_end, checked, verdict, load_verdict}
use Rattle.eo_run.specs.Opening.{opener_of, Told, Refuses, Runs, IsStop, IfWhole}
use Rattle.eo_run.specs.Progress.{Point, progress_at, SeesAt}
use Rattle.eo_run.specs.Seen.{Seen}
use Rattle.eo_run.specs.Watching.{Sees}
use Rattle.eo_session.specs.State.{State}
use Rattle.eo_run.specs.Verdict.{Refusal}
use Rattle.eo_run.specs.Answer.{Answers, Denotes}
use Rattle.eo_session.specs.Origin.{Origin}
use Rattle.eo_session.specs.Numbered.{origin_of}
use Rattle.eo_run.specs.declared.CheckJob.{CheckJob}
use Rattle.eo_run.specs.declared.checking.Named.{Named}
use Rattle.eo_run.specs.declared.opening.Run.{Run}
use Rattle.eo_run.specs.declared.Verdict.{Verdict}
use Rattle.eo_run.specs.declared.Verdict.TheVariants as answer

-- ---- a file that the job names

-- it counts as opened, but for the proof
abbrev pub opened_after : (is_proof : Bool) → List (List ℕ) → List ℕ → List (List ℕ)
opened_after true paths path = paths
opened_after false paths path = with_path paths path

abbrev pub counted : (is_proof : Bool) → Progress → List ℕ → Progress
counted is_proof p path = record p { opened = opened_after is_proof p.opened path }

-- its run, by what it is, whether it may be wrapped, and how many files may be open inside it
abbrev pub run_named : Files → (name : List ℕ) → Origin → (wrapped : Bool) → (opens : ℕ) → Progress → Ran
run_named files name from wrapped opens p =
    job_file files p name >>= λ file. run_commands (opener_of files opens) file.0 from (commands_of wrapped file.1) (counted wrapped p file.0)

abbrev pub run_of : Files → Named → Progress → Ran
run_of files n p = run_named files n.name.now (origin_of n.from) n.wrapped n.opens p

-- what a call that runs it needs: no file is open, as many may be inside this one, and the session goes on
pub record MayRun (n : Named) (run : Run) (files : List Rest) : Type 0 where
  pub none_open : files ≡ []
  pub opens : n.opens ≤ 17
  pub going : run.session.ended ≡ false

-- it was run to its end, which is this place
pub record EndsRun (files : Files) (name : List ℕ) (from : Origin) (ran : Ran) (new : Progress) (paths : List (List ℕ)) (place : Place) : Type 0 where
  pub runs : ran ≡ Ok new
  pub file : slice_get paths place.file ≡ Some (shown name)
  pub line : IfWhole from (place.line ≡ (file_end files name).line)
  pub offset : IfWhole from (place.offset ≡ (file_end files name).offset)

-- It was run to its end, or the result is that of its refusal.
abbrev pub RunsNamed : {O : Type 0} → (O → List notes.Seen → Type 0) → Option Files → Named → Result Place Verdict → (old new : Point O) → Type 0
RunsNamed tells told n (Ok place) old new = Told told (λ files. (seen : List Seen) → SeesAt tells old seen → (all : List Seen) × SeesAt tells new all
    × EndsRun files n.name.now (origin_of n.from) (run_of files n (progress_at old seen)) (progress_at new all) new.paths place)
RunsNamed tells told n (Err v) old new = Told told (λ files. Refuses tells old new v (λ p stopped. run_of files n p ≡ Err stopped))

-- the place of its end is in one of the paths, or it is a result for a run that stops
abbrev pub IsPlaced : List (List ℕ) → Result Place Verdict → Type 0
IsPlaced paths (Ok place) = IsSome (slice_get paths place.file)
IsPlaced paths (Err v) = IsStop paths v

-- the include file of a job, and then its reference file
abbrev pub before_files : Files → CheckJob → Progress → Ran
before_files files job p = if_given (run_signature files) job.include p >>= if_given (run_job_reference files) job.reference

-- and then its proof
abbrev pub run_job : Files → CheckJob → Progress → Ran
run_job files job p = before_files files job p >>= run_proof files job.proof

-- the bytes of a prelude, if there is one
abbrev pub given : Option (Bor (List ℕ)) → Option (List ℕ)
given prelude = option_map (λ (bytes : Bor (List ℕ)). bytes.now) prelude

-- a prelude, and then a job
abbrev pub run_after : Files → (prelude : Option (List ℕ)) → CheckJob → Progress → Ran
run_after files prelude job p = run_prelude files prelude p >>= run_job files job

-- the same of a part of the job that leaves no place
abbrev pub RunsPart : {O : Type 0} → (O → List notes.Seen → Type 0) → Option Files → (Files → Progress → Ran) → Result (Unit {0}) Verdict → (old new : Point O) → Type 0
RunsPart tells told run result old new = Told told (λ files. Runs tells old new result (run files))

-- ---- the first byte of a file that the job names

-- The result is that of the refusal, unless memory ran out.
abbrev pub StandsFor : List (List ℕ) → Verdict → Refusal → Type 0
StandsFor paths (answer.Refused fault) refusal = Denotes paths fault refusal
StandsFor paths answer.OutOfMemory refusal = ⊤
StandsFor paths v refusal = ⊥

-- The job's reference file begins, or its fault is at its first byte.
abbrev pub BeginsNamed : List (List ℕ) → (name : List ℕ) → Result (Unit {0}) Verdict → Checked State → (new : State) → Type 0
BeginsNamed paths name (Ok x) m new = m ≡ Ok new
BeginsNamed paths name (Err answer.OutOfMemory) m new = ⊤
BeginsNamed paths name (Err v) m new = (fault : FaultName) × (m ≡ Err fault) × StandsFor paths v (refusal_at (shown name) first_spot fault)

-- ---- results

-- A result that a check may give. The file of a refusal is one of the paths.
abbrev pub IsCheckAnswer : List (List ℕ) → Verdict → Type 0
IsCheckAnswer paths answer.Correct = ⊤
IsCheckAnswer paths answer.Incomplete = ⊤
IsCheckAnswer paths (answer.Loaded commands) = ⊥
IsCheckAnswer paths (answer.Refused fault) = IsSome (slice_get paths fault.place.file)
IsCheckAnswer paths answer.ReadFault = ⊤
IsCheckAnswer paths answer.OutOfMemory = ⊤

-- A result that a load may give.
abbrev pub IsLoadAnswer : List (List ℕ) → Verdict → Type 0
IsLoadAnswer paths answer.Correct = ⊥
IsLoadAnswer paths answer.Incomplete = ⊥
IsLoadAnswer paths (answer.Loaded commands) = ⊤
IsLoadAnswer paths (answer.Refused fault) = IsSome (slice_get paths fault.place.file)
IsLoadAnswer paths answer.ReadFault = ⊤
IsLoadAnswer paths answer.OutOfMemory = ⊤

-- the result is the verdict of the job, where files are known
abbrev pub AnswersJob : Option Files → CheckJob → List (List ℕ) → Verdict → Type 0
AnswersJob told job paths v = IfSome told (λ files. Answers paths v (verdict files job))

-- this holds of a result for a run that ends, or is refused
abbrev pub IfRun : Verdict → Type 0 → Type 0
IfRun answer.ReadFault P = ⊤
IfRun answer.OutOfMemory P = ⊤
IfRun v P = P

-- The result is the verdict of the proof after what was read before it, and the observer has seen what was accepted.
abbrev pub AnswersProof : {O : Type 0} → (O → List notes.Seen → Type 0) → Option Files → (proof : List ℕ) → (Files → Progress → Ran) → (old new : Point O) → Verdict → Type 0
AnswersProof tells told proof run old new v = Told told (λ files. (seen : List Seen) → SeesAt tells old seen
    → Answers new.paths v (checked files proof (run files (progress_at old seen))) × IfRun v (SeesAt tells new (seen_in (run files (progress_at old seen)))))

-- ---- an observed check

-- The result is the verdict of the job after the prelude.
abbrev pub AnswersObserved : Option Files → (prelude : Option (List ℕ)) → CheckJob → List (List ℕ) → Verdict → Type 0
AnswersObserved told prelude job paths v = IfSome told (λ files. Answers paths v (checked files job.proof (run_check_after files prelude job)))

-- The observer has seen the commands that were accepted, also where the run is refused.
abbrev pub SeesJob : {O : Type 0} → (O → List notes.Seen → Type 0) → O → Option Files → (prelude : Option (List ℕ)) → CheckJob → List (List ℕ) → Verdict → Type 0
SeesJob tells observer told prelude job paths v = IfRun v (IfSome told (λ files. Sees tells observer paths (seen_in (run_check_after files prelude job))))

abbrev pub AnswersLoad : Option Files → (name : List ℕ) → List (List ℕ) → Verdict → Type 0
AnswersLoad told name paths v = IfSome told (λ files. Answers paths v (load_verdict files name))
