-- What holds of a proof that is trimmed.
use Rattle.std.specs.Prelude.{◌≡◌, ℕ, ◌-◌, ◌^◌, ◌≤◌, List, ◌∷◌, length, Ok}
use Rattle.eo_base.specs.Limits.{limits}
use Rattle.eo_io.specs.Library.{Files}
use Rattle.eo_run.specs.Check.{verdict}
use Rattle.eo_run.specs.Run.{Progress, shown, run_check}
use Rattle.eo_run.specs.Verdict.{Correct}
use Rattle.eo_run.specs.declared.CheckJob.{CheckJob}
use Rattle.eo_trim.specs.Needed.{IsNeeded}
use Rattle.eo_trim.specs.Needing.{needed}
use Rattle.eo_trim.specs.Trim.{Trimmed, trimmed_proof, trim}

-- the run accepts no more commands than are counted
abbrev pub AreCounted : Files → CheckJob → Type 0
AreCounted files job = (final : Progress) → run_check files job ≡ Ok final → length final.seen ≤ 2 ^ 64 - 1

-- Just the needed commands are kept.
abbrev pub KeepsNeeded : Type 0
KeepsNeeded = (files : Files) (job : CheckJob) (bytes : List ℕ) → AreCounted files job → trim files job ≡ Trimmed bytes → (final : Progress) → run_check files job ≡ Ok final →
    IsNeeded (shown job.proof) final (needed (shown job.proof) final) × (bytes ≡ trimmed_proof (shown job.proof) final)

-- The check of the job is correct with the trimmed proof in the proof's place, where it is no longer than a file may be.
abbrev pub StaysCorrect : Type 0
StaysCorrect = (files : Files) (job : CheckJob) (bytes : List ℕ) → AreCounted files job → trim files job ≡ Trimmed bytes → length bytes ≤ limits.file →
    verdict ((shown job.proof, bytes) ∷ files) job ≡ Correct
