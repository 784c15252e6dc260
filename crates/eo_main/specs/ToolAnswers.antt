-- What is due for the results of `trim` and of `prove`.
use Rattle.std.specs.Prelude.{◌≡◌, ℕ, List, Option, IfSome}
use Rattle.eo_base.specs.declared.Status.{Status}
use Rattle.eo_base.specs.declared.Status.TheVariants as status
use Rattle.eo_io.specs.Library.{Files}
use Rattle.eo_run.specs.Answer.{answer_due}
use Rattle.eo_io.specs.Sink.{Adds}
use Rattle.eo_run.specs.Printed.{Due}
use Rattle.eo_run.specs.declared.CheckJob.{CheckJob}
use Rattle.eo_sem.specs.Proving.{IsRefuted}
use Rattle.eo_sem.specs.declared.ProveEnd.{ProveEnd}
use Rattle.eo_sem.specs.declared.ProveEnd.TheVariants as proved
use Rattle.eo_trim.specs.TrimAnswers.{IsShorter}
use Rattle.eo_trim.specs.declared.TrimEnd.{TrimEnd}
use Rattle.eo_trim.specs.declared.TrimEnd.TheVariants as trimmed
use Rattle.eo_main.specs.Proving.{valid_due}
use Rattle.eo_main.specs.Trimming.{proof_due}

abbrev pub trim_answer_due : List (List ℕ) → TrimEnd → Due
trim_answer_due paths (trimmed.Trimmed bytes) = proof_due bytes
trim_answer_due paths (trimmed.Other v) = answer_due paths v

abbrev pub prove_answer_due : List (List ℕ) → ProveEnd → Due
prove_answer_due paths proved.Valid = valid_due
prove_answer_due paths (proved.Other v) = answer_due paths v

-- With status 0, where files are known, just the needed commands are written, and with them in the proof's place the check is correct.
abbrev pub WritesShorter : Option Files → Status → CheckJob → (before after : Option (List ℕ)) → Type 0
WritesShorter told s job before after = s ≡ status.Ok → IfSome told (λ files. (bytes : List ℕ) × Adds bytes before after × IsShorter files job bytes)

-- With status 0, where files are known, no valuation makes all that the reference file asserts true.
abbrev pub LeavesNoModel : Option Files → Status → (reference proof : List ℕ) → Type 0
LeavesNoModel told s reference proof = s ≡ status.Ok → IfSome told (λ files. IsRefuted files reference proof)
