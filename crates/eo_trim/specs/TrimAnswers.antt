-- What is returned for a job whose proof is to be trimmed.
use Rattle.std.specs.Prelude.{◌≡◌, ℕ, ◌-◌, ◌^◌, ◌≤◌, true, false, List, [], ◌∷◌, length, Option, IfSome, Ok, ⊤}
use Rattle.eo_base.specs.Limits.{limits}
use Rattle.eo_base.specs.declared.FaultName.TheVariants.{ProofShared}
use Rattle.eo_io.specs.Library.{Files}
use Rattle.eo_run.specs.Answer.{Answers, AnswerHasCause}
use Rattle.eo_run.specs.Check.{verdict}
use Rattle.eo_run.specs.Judging.{IsCheckAnswer, IfRun}
use Rattle.eo_run.specs.Run.{Progress, shown, run_check}
use Rattle.eo_run.specs.Verdict.{Verdict, Correct}
use Rattle.eo_run.specs.declared.CheckJob.{CheckJob}
use Rattle.eo_run.specs.declared.Refutation.{Refutation}
use Rattle.eo_run.specs.declared.Verdict.TheVariants as answer
use Rattle.eo_trim.specs.Entries.{Entry}
use Rattle.eo_trim.specs.Marking.{AreBelow, entry_needs, text_of}
use Rattle.eo_trim.specs.Needed.{IsNeeded}
use Rattle.eo_trim.specs.Needing.{needed, contains}
use Rattle.eo_trim.specs.Trim as trim
use Rattle.eo_trim.specs.Trim.{trimmed_proof}
use Rattle.eo_trim.specs.declared.TrimEnd.{TrimEnd}
use Rattle.eo_trim.specs.declared.TrimEnd.TheVariants as end

-- It is what is said of the job, but for a read fault and for being out of memory.
abbrev pub Trims : List (List ℕ) → TrimEnd → trim.TrimEnd → Type 0
Trims paths (end.Trimmed bytes) said = said ≡ trim.Trimmed bytes
Trims paths (end.Other v) said = IfRun v ((of : Verdict) × (said ≡ trim.Other of) × Answers paths v of)

-- where files are known
abbrev pub AnswersTrim : Option Files → CheckJob → List (List ℕ) → TrimEnd → Type 0
AnswersTrim told job paths r = IfSome told (λ files. Trims paths r (trim.trim files job))

-- Just the needed commands are kept, and with them in the proof's place the check of the job is correct, where they are no longer than a file may be.
pub record IsShorter (files : Files) (job : CheckJob) (bytes : List ℕ) : Type 0 where
  pub final : Progress
  pub ends : run_check files job ≡ Ok final
  pub least : IsNeeded (shown job.proof) final (needed (shown job.proof) final)
  pub is : bytes ≡ trimmed_proof (shown job.proof) final
  pub stays : length bytes ≤ limits.file → verdict ((shown job.proof, bytes) ∷ files) job ≡ Correct

-- the same, where files are known
abbrev pub TrimmedStays : Option Files → CheckJob → TrimEnd → Type 0
TrimmedStays told job (end.Trimmed bytes) = IfSome told (λ files. IsShorter files job bytes)
TrimmedStays told job (end.Other v) = ⊤

abbrev pub TrimHasCause : {F : Type 0} → TrimEnd → Option F → (before now : ℕ) → Type 0
TrimHasCause (end.Trimmed bytes) told before now = ⊤
TrimHasCause (end.Other v) told before now = AnswerHasCause v told before now

-- A trimmed proof, or a verdict of a check that is not correct. The file of a refusal is one of the paths.
abbrev pub IsTrimAnswer : List (List ℕ) → TrimEnd → Type 0
IsTrimAnswer paths (end.Trimmed bytes) = ⊤
IsTrimAnswer paths (end.Other answer.Correct) = ⊥
IsTrimAnswer paths (end.Other v) = IsCheckAnswer paths v

-- ---- by the entries of a correct run

-- the text of what this command needs
abbrev pub needed_text : (command : ℕ) → List Entry → List ℕ
needed_text command entries = text_of (contains (entry_needs (command ∷ []) entries)) entries

-- The text of the needed commands, or the fault of a proof whose file was opened in another place too.
abbrev pub TrimsEntries : List Entry → Refutation → TrimEnd → Type 0
TrimsEntries entries r (end.Trimmed bytes) = (r.shared ≡ false) × (length entries ≤ 2 ^ 64 - 1) × (AreBelow (length entries) entries → bytes ≡ needed_text r.command entries)
TrimsEntries entries r (end.Other (answer.Refused fault)) = (r.shared ≡ true) × (fault.name ≡ ProofShared) × (fault.place ≡ r.end)
TrimsEntries entries r (end.Other answer.OutOfMemory) = ⊤
TrimsEntries entries r (end.Other v) = ⊥
