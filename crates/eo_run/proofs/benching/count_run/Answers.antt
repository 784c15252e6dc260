use Rattle.std.proofs.Common.{sym, subst}
use Rattle.eo_run.specs.Benching.{AnswersBench}
use Rattle.eo_run.specs.Progress.{point}
use Rattle.eo_run.specs.declared.BenchEnd.{BenchEnd}
use Rattle.eo_run.proofs.Benches.{counted-answers}
use Rattle.eo_run.proofs.Watched.{sees-nothing}
use Rattle.eo_run.proofs.benching.count_run.Goals as goal

pub returns : goal.returns
returns c =
    let files = c.args.files.now.told in
    let job = c.args.job.now in
    let called = c.check_job-checked in
    subst (λ (e : BenchEnd). AnswersBench files job called.new.paths e) (sym c.counts-end.ensures)
    (counted-answers _ files job (point c.in-Ok.run' _ c.args.paths.now) (point called.new.run called.new.observer called.new.paths) called.result c.in-Ok.ensures.is (sees-nothing _ _ c.args.paths.now tt)
    called.ensures.verdict called.ensures.last called.ensures.end.kind called.ensures.end.cause)
