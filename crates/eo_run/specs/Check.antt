-- The verdict of the files of a check or of a load.
use Rattle.std.specs.Prelude.{ℕ, Bool, if◌then◌else◌, List, [], Option, Some, None, Ok, Err, option_and_then}
use Rattle.std.specs.Option.{option_map_or}
use Rattle.eo_base.specs.declared.FaultName.{FaultName}
use Rattle.eo_io.specs.Library.{Files, file_at}
use Rattle.eo_io.specs.Paths.{fold_path}
use Rattle.eo_sexp.specs.Spot.{Spot}
use Rattle.eo_sexp.specs.Texts.{first_spot, spot_after}
use Rattle.eo_session.specs.State.{end_fault}
use Rattle.eo_run.specs.Run.{Ran, refusal_at, shown, run_check, run_load}
use Rattle.eo_run.specs.Verdict.{Verdict, Correct, Incomplete, Loaded, Refused}
use Rattle.eo_run.specs.declared.CheckJob.{CheckJob}

abbrev pub loaded : Ran → Verdict
loaded (Err stopped) = Refused stopped.refusal
loaded (Ok p) = Loaded p.state.commands

module _ (files : Files) where
  -- the place after the last byte of a file that the job names
  abbrev pub file_end : List ℕ → Spot
  file_end name = option_map_or (spot_after first_spot) (option_and_then (file_at files) (fold_path [] name)) first_spot

  -- a proof that is run to its end: what is wrong there, or whether a step used a rule that is marked as unproved
  abbrev pub ended : (proof : List ℕ) → (sorry : Bool) → Option FaultName → Verdict
  ended proof sorry (Some name) = Refused (refusal_at (shown proof) (file_end proof) name)
  ended proof sorry None = if sorry then Incomplete else Correct

  abbrev pub checked : (proof : List ℕ) → Ran → Verdict
  checked proof (Err stopped) = Refused stopped.refusal
  checked proof (Ok p) = ended proof p.state.sorry (end_fault p.state)

  -- The verdict of a check.
  unfoldable pub verdict : CheckJob → Verdict
  verdict job = checked job.proof (run_check files job)

  -- The verdict of a load, which has no check at the end.
  unfoldable pub load_verdict : List ℕ → Verdict
  load_verdict name = loaded (run_load files name)
