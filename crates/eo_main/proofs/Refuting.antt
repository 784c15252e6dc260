-- A run of the program that ends with status 0 refutes what was asserted.
use Rattle.std.proofs.Common.{◌≡◌, ℕ, Bool, true, false, List, Option, None, Some, refl, sym, subst}
use Rattle.std.specs.Prelude.{Ok, Err}
use Rattle.eo_base.specs.declared.FaultName.{FaultName}
use Rattle.eo_base.specs.declared.Status.{Status}
use Rattle.eo_base.specs.declared.Status.TheVariants as status
use Rattle.eo_io.specs.Library.{Files}
use Rattle.eo_run.specs.Check.{checked, ended, verdict}
use Rattle.eo_run.specs.Printed.{verdict_due, verdict_status}
use Rattle.eo_run.specs.Refutation.{Refutes}
use Rattle.eo_run.specs.Run.{Ran, run_check}
use Rattle.eo_session.specs.State.{end_fault}
use Rattle.eo_run.specs.Verdict.{Correct}
use Rattle.eo_main.specs.Ends.{Ends}
use Rattle.eo_main.specs.Program.{due, EndsAs, OkRefutes}
use Rattle.eo_main.specs.declared.Request.{Request}
use Rattle.eo_main.specs.declared.Request.TheVariants.{Check}
use Rattle.eo_run.specs.declared.CheckJob.{CheckJob}

-- a check with the status of a correct one is correct: it is never said to be loaded
module _ (files : Files) (proof : List ℕ) where
  correct_ended : (sorry : Bool) (o : Option FaultName) → verdict_status (ended files proof sorry o) ≡ status.Ok → ended files proof sorry o ≡ Correct
  correct_ended sorry (Some name) e = absurd cc
  correct_ended true None e = absurd cc
  correct_ended false None e = refl

  correct_checked : (ran : Ran) → verdict_status (checked files proof ran) ≡ status.Ok → checked files proof ran ≡ Correct
  correct_checked (Err refusal) e = absurd cc
  correct_checked (Ok p) e = correct_ended p.state.sorry (end_fault p.state) e

ok_correct : (files : Files) (job : CheckJob) → verdict_status (verdict files job) ≡ status.Ok → verdict files job ≡ Correct
unfolding verdict
ok_correct files job e = correct_checked files job.proof (run_check files job) e

module _ (F : Type 0) (law : (files : Files) (job : CheckJob) → verdict files job ≡ Correct → Refutes files job) where
  told_refutes : (files : Files) (s : Status) (job : CheckJob) (w x : Option (List ℕ)) → Ends F s (due files (Some (Check job))) w x → s ≡ status.Ok → Refutes files job
  unfolding due
  told_refutes files s job w x h ok = law files job (ok_correct files job (sym (subst (λ (s : Status). Ends F s (verdict_due (verdict files job)) w x) ok h).0))

  pub ok_refutes : (told : Option Files) (s : Status) (reading : Option Request) (w x : Option (List ℕ)) → EndsAs F told s reading w x → OkRefutes told s reading
  ok_refutes None s reading w x h = λ job is ok. tt
  ok_refutes (Some files) s reading w x h = λ job is ok. told_refutes files s job w x (subst (λ (r : Option Request). Ends F s (due files r) w x) is h) ok
