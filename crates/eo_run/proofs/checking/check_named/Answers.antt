use Rattle.std.proofs.Common.{ap}
use Rattle.std.specs.Prelude.{Err}
use Rattle.eo_io.specs.declared.PathRefused.{PathRefused}
use Rattle.eo_run.specs.Progress.{point}
use Rattle.eo_run.proofs.Jobs.{named-refused}
use Rattle.eo_run.proofs.Watched.{sees-later}
use Rattle.eo_run.proofs.Ends.{extends-same}
use Rattle.eo_run.proofs.checking.check_named.Goals as goal

pub returns-in-Err-Bad-clause-runs : goal.returns-in-Err-Bad-clause-runs
returns-in-Err-Bad-clause-runs g c =
    let old = point c.args.run.now c.args.observer.now c.args.paths.now in
    let new = point c.args.run.now c.args.observer.now c.refuse_at_start.new.paths in
    named-refused g.O.Observer.tells (g.L.Library.told c.args.files.now) c.args.named.now old new c.refuse_at_start.result
    (λ seen sees. sees-later g.O.Observer.tells c.args.observer.now c.args.paths.now c.refuse_at_start.new.paths seen c.refuse_at_start.ensures.grows sees)
    (c.in-Err-Bad.ensures.bad (ap (λ (e : PathRefused). Err e) c.in-Err-Bad.field-0-is)) c.refuse_at_start.ensures.stands

pub returns-in-Err-Memory-clause-grows : goal.returns-in-Err-Memory-clause-grows
returns-in-Err-Memory-clause-grows g c = extends-same c.args.paths.now
