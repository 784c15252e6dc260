-- What is due for a proof that is to be trimmed.
use Rattle.std.specs.Prelude.{ℕ, List}
use Rattle.eo_base.specs.declared.Status.TheVariants as status
use Rattle.eo_run.specs.Printed.{Due, verdict_due}
use Rattle.eo_trim.specs.Trim.{TrimEnd, Trimmed, Other}

-- the bytes of a trimmed proof
abbrev pub proof_due : List ℕ → Due
proof_due bytes = record { status = status.Ok; text = bytes }

-- The trimmed proof, or the line of the verdict.
abbrev pub trim_due : TrimEnd → Due
trim_due (Trimmed bytes) = proof_due bytes
trim_due (Other v) = verdict_due v
