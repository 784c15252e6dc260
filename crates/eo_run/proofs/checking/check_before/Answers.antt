use Rattle.std.specs.Prelude.{Result}
use Rattle.eo_io.specs.Library.{Files}
use Rattle.eo_run.specs.Judging.{RunsPart, before_files}
use Rattle.eo_run.specs.Progress.{point}
use Rattle.eo_run.specs.Run.{if_given, run_signature, run_job_reference}
use Rattle.eo_run.specs.declared.Verdict.{Verdict}
use Rattle.eo_base.proofs.Answering.{at_exit}
use Rattle.eo_run.proofs.Jobs.{first-stops, both-run}
use Rattle.eo_run.proofs.Taking.{extends-trans}
use Rattle.eo_run.proofs.checking.check_before.Goals as goal

pub returns-in_err-check_include-clause-runs : goal.returns-in_err-check_include-clause-runs
returns-in_err-check_include-clause-runs g c =
    let told = g.L.Library.told c.args.files.now in
    let job = c.args.job.now in
    let old = point c.args.run.now c.args.observer.now c.args.paths.now in
    let new = point c.check_include.new.run c.check_include.new.observer c.check_include.new.paths in
    let x = c.in_err-check_include.field-0.0 in
    at_exit (λ (r : Result (Unit {0}) Verdict). RunsPart g.O.Observer.tells told (λ (f : Files). before_files f job) r old new) c.from_residual.result x c.from_residual.ensures.1
    (first-stops g.O.Observer.tells told (λ (f : Files). if_given (run_signature f) job.include) (λ (f : Files). if_given (run_job_reference f) job.reference) old new x c.in_err-check_include.ensures.runs)

pub returns-clause-runs : goal.returns-clause-runs
returns-clause-runs g c =
    let told = g.L.Library.told c.args.files.now in
    let job = c.args.job.now in
    both-run g.O.Observer.tells told (λ (f : Files). if_given (run_signature f) job.include) (λ (f : Files). if_given (run_job_reference f) job.reference) _ c.in_ok-check_include.ensures.stays.same
    (point c.args.run.now c.args.observer.now c.args.paths.now) (point c.check_include.new.run c.check_include.new.observer c.check_include.new.paths) (point c.check_reference.new.run c.check_reference.new.observer c.check_reference.new.paths) tt c.in_ok-check_include.ensures.runs c.check_reference.result c.check_reference.ensures.runs

pub returns-clause-grows : goal.returns-clause-grows
returns-clause-grows g c = extends-trans c.args.paths.now c.check_include.new.paths c.check_reference.new.paths c.check_include.ensures.grows c.check_reference.ensures.grows
