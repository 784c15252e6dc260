use Rattle.eo_io.specs.Library.{Files}
use Rattle.eo_run.specs.Ending.{verdict_of}
use Rattle.eo_run.specs.Judging.{run_job, run_after, given}
use Rattle.eo_run.specs.Run.{run_prelude}
use Rattle.eo_run.specs.Progress.{point}
use Rattle.eo_run.proofs.Jobs.{first-stops, part-answers, both-answer, both-last}
use Rattle.eo_run.proofs.Ends.{end-later, end-stops}
use Rattle.eo_run.proofs.checking.check_after.Goals as goal

pub returns-in-Err-clause-verdict : goal.returns-in-Err-clause-verdict
returns-in-Err-clause-verdict g c =
    let told = g.L.Library.told c.args.files.now in
    let job = c.args.job.now in
    let prelude = given c.args.prelude in
    let old = point c.args.run.now c.args.observer.now c.args.paths.now in
    let new = point c.check_first.new.run c.check_first.new.observer c.check_first.new.paths in
    part-answers g.O.Observer.tells told job.proof (λ (f : Files). run_after f prelude job) old new c.in-Err.verdict
    (first-stops g.O.Observer.tells told (λ (f : Files). run_prelude f prelude) (λ (f : Files). run_job f job) old new c.in-Err.verdict c.in-Err.ensures.runs)

pub returns-in-Ok-clause-verdict : goal.returns-in-Ok-clause-verdict
returns-in-Ok-clause-verdict g c =
    let job = c.args.job.now in
    both-answer g.O.Observer.tells (g.L.Library.told c.args.files.now) (λ (f : Files). run_prelude f (given c.args.prelude)) (λ (f : Files). run_job f job) _ c.in-Ok.ensures.stays.same (point c.args.run.now c.args.observer.now c.args.paths.now) (point c.check_first.new.run c.check_first.new.observer c.check_first.new.paths) (point c.check_job.new.run c.check_job.new.observer c.check_job.new.paths) tt c.in-Ok.ensures.runs
    job.proof (verdict_of c.check_job.result) c.check_job.ensures.verdict

pub returns-in-Ok-clause-last : goal.returns-in-Ok-clause-last
returns-in-Ok-clause-last g c =
    let job = c.args.job.now in
    both-last g.O.Observer.tells (g.L.Library.told c.args.files.now) (λ (f : Files). run_prelude f (given c.args.prelude)) (λ (f : Files). run_job f job) _ c.in-Ok.ensures.stays.same (point c.args.run.now c.args.observer.now c.args.paths.now) (point c.check_first.new.run c.check_first.new.observer c.check_first.new.paths) (point c.check_job.new.run c.check_job.new.observer c.check_job.new.paths) tt c.in-Ok.ensures.runs
    job.proof c.check_job.result c.check_job.ensures.last

pub returns-in-Ok-clause-end : goal.returns-in-Ok-clause-end
returns-in-Ok-clause-end g c =
    let stays = c.in-Ok.ensures.stays in
    end-later _ _ stays.same _ _ _ stays.later c.args.paths.now c.check_first.new.paths c.check_job.new.paths c.check_job.result c.check_first.ensures.grows c.check_job.ensures.end

pub returns-in-Err-clause-end : goal.returns-in-Err-clause-end
returns-in-Err-clause-end g c =
    end-stops _ _ _ c.args.paths.now c.check_first.new.paths c.in-Err.verdict c.in-Err.ensures.cause c.in-Err.ensures.kind c.check_first.ensures.grows
