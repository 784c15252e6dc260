use Rattle.eo_run.specs.Judging.{given}
use Rattle.eo_run.specs.Progress.{point}
use Rattle.std.proofs.Common.{ap}
use Rattle.std.specs.Borrow.{Bor}
use Rattle.std.proofs.Common.{List, ℕ, Option}
use Rattle.eo_run.proofs.Preludes.{first-none, first-some}
use Rattle.eo_run.proofs.Ends.{extends-same}
use Rattle.eo_run.proofs.checking.check_first.Goals as goal

pub returns-in-None-clause-runs : goal.returns-in-None-clause-runs
returns-in-None-clause-runs g c =
    first-none g.O.Observer.tells (g.L.Library.told c.args.files.now) (given c.args.prelude) (ap (λ (o : Option (Bor (List ℕ))). given o) c.in-None.is) (point c.args.run.now c.args.observer.now c.args.paths.now) tt

pub returns-in-Some-clause-runs : goal.returns-in-Some-clause-runs
returns-in-Some-clause-runs g c =
    first-some g.O.Observer.tells (g.L.Library.told c.args.files.now) (given c.args.prelude) c.in-Some.bytes.now (ap (λ (o : Option (Bor (List ℕ))). given o) c.in-Some.is)
    (point c.args.run.now c.args.observer.now c.args.paths.now) (point c.check_prelude.new.run c.check_prelude.new.observer c.check_prelude.new.paths) c.check_prelude.result c.check_prelude.ensures.runs

pub returns-in-None-clause-grows : goal.returns-in-None-clause-grows
returns-in-None-clause-grows g c = extends-same c.args.paths.now
