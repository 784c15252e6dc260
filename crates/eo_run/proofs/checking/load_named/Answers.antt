use Rattle.std.proofs.Common.{sym, subst, ℕ}
use Rattle.eo_run.specs.Judging.{AnswersLoad}
use Rattle.eo_run.specs.Progress.{point}
use Rattle.eo_run.specs.declared.Verdict.TheVariants.{Loaded}
use Rattle.eo_run.proofs.Jobs.{loaded-runs, loaded-stops}
use Rattle.eo_run.proofs.Watched.{sees-nothing}
use Rattle.eo_run.proofs.checking.load_named.Goals as goal

pub returns-in-Err-clause-verdict : goal.returns-in-Err-clause-verdict
returns-in-Err-clause-verdict g c =
    loaded-stops g.O.Observer.tells (g.L.Library.told c.args.files.now) c.args.name.now (point c.args.run.now c.args.observer.now c.args.paths.now) (point c.load_to_end.new.run c.load_to_end.new.observer c.load_to_end.new.paths)
    (sees-nothing g.O.Observer.tells c.args.observer.now c.args.paths.now c.requires.nothing_seen) c.in-Err.verdict c.in-Err.ensures.runs

pub returns-in-Ok-clause-verdict : goal.returns-in-Ok-clause-verdict
returns-in-Ok-clause-verdict g c =
    let told = g.L.Library.told c.args.files.now in
    let name = c.args.name.now in
    subst (λ (k : ℕ). AnswersLoad told name c.load_to_end.new.paths (Loaded k)) (sym c.commands.ensures)
    (loaded-runs g.O.Observer.tells told name (point c.args.run.now c.args.observer.now c.args.paths.now) (point c.load_to_end.new.run c.load_to_end.new.observer c.load_to_end.new.paths) (sees-nothing g.O.Observer.tells c.args.observer.now c.args.paths.now c.requires.nothing_seen) c.in-Ok.field-0 c.in-Ok.ensures.runs)
