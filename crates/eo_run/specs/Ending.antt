-- How a check ends, and what is known of the end of one that is correct.
use Rattle.std.specs.Prelude.{◌≡◌, ℕ, false, List, Option, Some, IfSome, IsSome, Ok, slice_get, bytes_eq, ⊤}
use Rattle.std.specs.List.{list_any}
use Rattle.eo_io.specs.Library.{Files}
use Rattle.eo_io.specs.Paths.{Extends}
use Rattle.eo_proof.specs.Scopes.{first_false}
use Rattle.eo_session.specs.Notes as notes
use Rattle.eo_run.specs.Answer.{AnswerHasCause}
use Rattle.eo_run.specs.Check.{file_end}
use Rattle.eo_run.specs.Judging.{IsCheckAnswer}
use Rattle.eo_run.specs.Opening.{Told}
use Rattle.eo_run.specs.Progress.{Point, progress_at, SeesAt}
use Rattle.eo_run.specs.Run.{Progress, Ran, shown, run_check_after}
use Rattle.eo_run.specs.Seen.{Seen}
use Rattle.eo_run.specs.declared.CheckEnd.{CheckEnd}
use Rattle.eo_run.specs.declared.CheckEnd.TheVariants as ends
use Rattle.eo_run.specs.declared.CheckJob.{CheckJob}
use Rattle.eo_run.specs.declared.Refutation.{Refutation}
use Rattle.eo_run.specs.declared.Verdict.{Verdict}
use Rattle.eo_run.specs.declared.Verdict.TheVariants as answer

-- its verdict
abbrev pub verdict_of : CheckEnd → Verdict
verdict_of (ends.Correct r) = answer.Correct
verdict_of (ends.Ended v) = v

-- this holds where it is correct
abbrev pub IfCorrect : CheckEnd → Type 0 → Type 0
IfCorrect (ends.Correct r) P = P
IfCorrect (ends.Ended v) P = ⊤

-- The run of the proof ends here: by this command it made the first `false` outside all scopes, at this place is the end of its file, and its file was opened in another place too, or not.
pub record IsRefutation (files : Files) (proof : List ℕ) (paths : List (List ℕ)) (final : Progress) (r : Refutation) : Type 0 where
  pub command : first_false final.state.scopes ≡ Some r.command
  pub file : slice_get paths r.end.file ≡ Some (shown proof)
  pub line : r.end.line ≡ (file_end files proof).line
  pub offset : r.end.offset ≡ (file_end files proof).offset
  pub shared : r.shared ≡ list_any (bytes_eq (shown proof)) final.opened

-- Where it is correct and files are known, their run ends so.
abbrev pub RefutesJob : Option Files → (prelude : Option (List ℕ)) → CheckJob → List (List ℕ) → CheckEnd → Type 0
RefutesJob told prelude job paths (ends.Correct r) = IfSome told (λ files. (final : Progress) × (run_check_after files prelude job ≡ Ok final) × IsRefutation files job.proof paths final r)
RefutesJob told prelude job paths (ends.Ended v) = ⊤

-- An end of a check. The file of a place is one of the paths.
abbrev pub IsCheckEnd : List (List ℕ) → CheckEnd → Type 0
IsCheckEnd paths (ends.Correct r) = IsSome (slice_get paths r.end.file)
IsCheckEnd paths (ends.Ended answer.Correct) = ⊥
IsCheckEnd paths (ends.Ended v) = IsCheckAnswer paths v

-- What is known at the end of a check whatever its files hold: why it gave up, that its places are in the table of paths, and that the paths from before keep their numbers.
pub record KnownAtEnd {F : Type 0} (told : Option F) (before now : ℕ) (old new : List (List ℕ)) (e : CheckEnd) : Type 0 where
  pub cause : AnswerHasCause (verdict_of e) told before now
  pub kind : IsCheckEnd new e
  pub grows : Extends old new

-- ---- the run of a correct check

-- The session goes on, and the run is where the definition's ends.
pub record IsLast {O : Type 0} (tells : O → List notes.Seen → Type 0) (told : Option Files) (proof : List ℕ) (run : Files → Progress → Ran) (r : Refutation) (old new : Point O) : Type 0 where
  pub going : new.run.session.ended ≡ false
  pub runs : Told told (λ files. (seen : List Seen) → SeesAt tells old seen → (all : List Seen) × SeesAt tells new all
      × (run files (progress_at old seen) ≡ Ok (progress_at new all)) × IsRefutation files proof new.paths (progress_at new all) r)

abbrev pub LeavesLast : {O : Type 0} → (O → List notes.Seen → Type 0) → Option Files → (proof : List ℕ) → (Files → Progress → Ran) → CheckEnd → (old new : Point O) → Type 0
LeavesLast tells told proof run (ends.Correct r) old new = IsLast tells told proof run r old new
LeavesLast tells told proof run (ends.Ended v) old new = ⊤
