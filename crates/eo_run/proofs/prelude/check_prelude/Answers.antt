use Rattle.std.proofs.Common.{◌∙◌, refl, ℕ, Some, ap, sym, length, arith}
use Rattle.std.specs.Prelude.{position, bytes_eq}
use Rattle.eo_run.specs.Progress.{point}
use Rattle.eo_run.proofs.Preludes.{prelude-runs}
use Rattle.eo_run.proofs.Taking.{extends-trans}
use Rattle.eo_run.proofs.Watched.{sees-later}
use Rattle.eo_run.proofs.prelude.check_prelude.Goals as goal

pub check_text-requires : goal.check_text-requires
check_text-requires g c =
    let is = c.prelude_source-source.ensures in
    record {
      ready = record {
        room = omega (arith, ap length c.requires.none_open, is.opens);
        going = c.requires.going;
        numbered = (λ j. position (bytes_eq (is.path j)) c.add-2.new.self) ∙ c.in-Ok-add.ensures.first ∙ ap (λ (n : ℕ). Some n) (sym is.numbered);
      };
    }

pub returns-clause-runs : goal.returns-clause-runs
returns-clause-runs g c =
    let s = c.prelude_source-source.result in
    let is = c.prelude_source-source.ensures in
    let old = point c.args.run.now c.args.observer.now c.args.paths.now in
    let mid = point (record c.args.run.now { included = c.add.new.self }) c.args.observer.now c.add-2.new.self in
    let new = point c.check_text.new.run c.check_text.new.observer c.check_text.new.paths in
    prelude-runs g.O.Observer.tells (g.L.Library.told c.args.files.now) s c.args.bytes.now is.path is.kind is.plain is.opens old mid refl c.in-Ok.ensures.table refl
    (λ seen sees. sees-later g.O.Observer.tells c.args.observer.now c.args.paths.now c.add-2.new.self seen c.in-Ok-add.ensures.grows sees)
    c.check_text.result new c.check_text.ensures.runs

pub returns-clause-grows : goal.returns-clause-grows
returns-clause-grows g c = extends-trans c.args.paths.now c.add-2.new.self c.check_text.new.paths c.in-Ok-add.ensures.grows c.check_text.ensures.keeps.table
