use Rattle.eo_run.proofs.Ends.{correct-sound, ended-sound, ended-answer}
use Rattle.eo_run.proofs.Files.{told-some}
use Rattle.eo_run.proofs.Jobs.{none-answers}
use Rattle.eo_run.specs.Refutation.{ClosedKeepsRules}
use Rattle.eo_run.specs.declared.Verdict.TheVariants.{Correct}
use Rattle.eo_io.specs.Library.{Files}
use Rattle.eo_run.proofs.checking.check_files.Goals as goal

pub returns-in-Correct-clause-closed : goal.returns-in-Correct-clause-closed
returns-in-Correct-clause-closed g c =
    told-some (g.L.Library.told c.args.files.now) (λ (f : Files). ClosedKeepsRules f c.args.job.now) (λ files k. c.soundness_law.ensures.closed files c.args.job.now)

pub returns-in-Ended-clause-closed : goal.returns-in-Ended-clause-closed
returns-in-Ended-clause-closed g c =
    told-some (g.L.Library.told c.args.files.now) (λ (f : Files). ClosedKeepsRules f c.args.job.now) (λ files k. c.soundness_law.ensures.closed files c.args.job.now)

pub returns-in-Correct-clause-verdict : goal.returns-in-Correct-clause-verdict
returns-in-Correct-clause-verdict g c = none-answers (g.L.Library.told c.args.files.now) c.args.job.now c.check_observed.new.paths Correct c.in-Correct.ensures.verdict

pub returns-in-Ended-clause-verdict : goal.returns-in-Ended-clause-verdict
returns-in-Ended-clause-verdict g c = none-answers (g.L.Library.told c.args.files.now) c.args.job.now c.check_observed.new.paths c.in-Ended.verdict c.in-Ended.ensures.verdict

pub returns-in-Correct-clause-sound : goal.returns-in-Correct-clause-sound
returns-in-Correct-clause-sound g c =
    let told = g.L.Library.told c.args.files.now in
    let job = c.args.job.now in
    correct-sound told job c.check_observed.new.paths c.soundness_law.ensures.correct (none-answers told job c.check_observed.new.paths Correct c.in-Correct.ensures.verdict)

pub returns-in-Ended-clause-sound : goal.returns-in-Ended-clause-sound
returns-in-Ended-clause-sound g c = ended-sound (g.L.Library.told c.args.files.now) c.args.job.now c.check_observed.new.paths c.in-Ended.verdict c.in-Ended.ensures.end.kind

pub returns-in-Ended-clause-kind : goal.returns-in-Ended-clause-kind
returns-in-Ended-clause-kind g c = ended-answer c.check_observed.new.paths c.in-Ended.verdict c.in-Ended.ensures.end.kind

pub returns-in-Ended-clause-cause : goal.returns-in-Ended-clause-cause
returns-in-Ended-clause-cause g c = c.in-Ended.ensures.end.cause
