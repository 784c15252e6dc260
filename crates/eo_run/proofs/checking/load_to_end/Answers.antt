use Rattle.std.proofs.Common.{refl}
use Rattle.std.specs.Prelude.{false}
use Rattle.eo_run.specs.Progress.{point}
use Rattle.eo_run.specs.Run.{first_load}
use Rattle.eo_session.specs.declared.Origin.TheVariants.{Signature}
use Rattle.eo_run.specs.declared.checking.Named.{Named}
use Rattle.eo_run.proofs.Jobs.{is-signature, load-ends}
use Rattle.eo_run.proofs.checking.load_to_end.Goals as goal

pub returns-clause-runs : goal.returns-clause-runs
returns-clause-runs g c =
    let n : Named = record { name = c.args.name; from = Signature 0; wrapped = false; opens = 17 } in
    let name = c.args.name.now in
    load-ends g.O.Observer.tells (g.L.Library.told c.args.files.now) name (point c.args.run.now c.args.observer.now c.args.paths.now) (point c.check_named.new.run c.check_named.new.observer c.check_named.new.paths) n refl c.requires.begins.is
    (λ files. is-signature n (first_load name) files refl refl refl) c.check_named.result refl c.check_named.ensures.runs
