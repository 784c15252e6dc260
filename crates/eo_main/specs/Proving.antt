-- What is due for a proof that assertions have no model.
use Rattle.std.specs.Prelude.{codes}
use Rattle.eo_base.specs.declared.Status.TheVariants as status
use Rattle.eo_run.specs.Printed.{Due, line, verdict_due}
use Rattle.eo_sem.specs.Proving.{ProveVerdict, Valid, Other}

-- the line of one that shows it
abbrev pub valid_due : Due
valid_due = record { status = status.Ok; text = line (codes "valid") }

-- That line, or the line of the verdict.
abbrev pub prove_due : ProveVerdict → Due
prove_due Valid = valid_due
prove_due (Other v) = verdict_due v
