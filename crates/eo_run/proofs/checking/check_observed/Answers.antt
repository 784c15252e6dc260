use Rattle.eo_run.specs.Ending.{verdict_of}
use Rattle.eo_run.specs.Judging.{given}
use Rattle.eo_run.specs.Progress.{point}
use Rattle.eo_run.proofs.Ends.{extends-same, whole-refutes}
use Rattle.eo_run.proofs.Jobs.{whole-answers, whole-sees}
use Rattle.eo_run.proofs.Watched.{sees-nothing}
use Rattle.eo_run.proofs.checking.check_observed.Goals as goal

pub returns-clause-verdict : goal.returns-clause-verdict
returns-clause-verdict g c =
    whole-answers g.O.Observer.tells (g.L.Library.told c.args.files.now) (given c.args.prelude) c.args.job.now (point c.in-Ok.run' c.args.observer.now c.args.paths.now) (point c.check_after-end.new.run c.check_after-end.new.observer c.check_after-end.new.paths) c.in-Ok.ensures.is
    (sees-nothing g.O.Observer.tells c.args.observer.now c.args.paths.now c.requires.nothing_seen) (verdict_of c.check_after-end.result) c.check_after-end.ensures.verdict

pub returns-clause-sees : goal.returns-clause-sees
returns-clause-sees g c =
    whole-sees g.O.Observer.tells (g.L.Library.told c.args.files.now) (given c.args.prelude) c.args.job.now (point c.in-Ok.run' c.args.observer.now c.args.paths.now) (point c.check_after-end.new.run c.check_after-end.new.observer c.check_after-end.new.paths) c.in-Ok.ensures.is
    (sees-nothing g.O.Observer.tells c.args.observer.now c.args.paths.now c.requires.nothing_seen) (verdict_of c.check_after-end.result) c.check_after-end.ensures.verdict

pub returns-clause-refutes : goal.returns-clause-refutes
returns-clause-refutes g c =
    whole-refutes g.O.Observer.tells (g.L.Library.told c.args.files.now) (given c.args.prelude) c.args.job.now (point c.in-Ok.run' c.args.observer.now c.args.paths.now) (point c.check_after-end.new.run c.check_after-end.new.observer c.check_after-end.new.paths) c.in-Ok.ensures.is
    (sees-nothing g.O.Observer.tells c.args.observer.now c.args.paths.now c.requires.nothing_seen) c.check_after-end.result c.check_after-end.ensures.last

pub returns-clause-end : goal.returns-clause-end
returns-clause-end g c = c.check_after-end.ensures.end

pub returns-in_default-clause-end : goal.returns-in_default-clause-end
returns-in_default-clause-end g c = record { cause = tt; kind = tt; grows = extends-same c.args.paths.now }
