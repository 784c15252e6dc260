use Rattle.std.proofs.Common.{refl, ℕ, Option, Some, ap, sym, subst, ◌∙◌, List}
use Rattle.std.specs.Prelude.{Result, Ok, Err, is_some}
use Rattle.eo_base.specs.declared.Place.{Place}
use Rattle.eo_sexp.specs.Spot.{Spot}
use Rattle.eo_sexp.specs.Texts.{first_spot}
use Rattle.eo_base.specs.declared.FaultName.TheVariants.{FileAbsent}
use Rattle.eo_run.specs.Judging.{RunsNamed}
use Rattle.eo_run.specs.Opening.{IsStop, RunsFile}
use Rattle.eo_run.specs.Progress.{point}
use Rattle.eo_run.specs.declared.Verdict.{Verdict}
use Rattle.eo_run.specs.declared.opening.Source.{Source}
use Rattle.eo_base.proofs.Answering.{at_exit}
use Rattle.eo_io.proofs.PathLemmas.{found}
use Rattle.eo_run.proofs.Jobs.{path-runs, path-absent, path-stops}
use Rattle.eo_run.proofs.Numbers.{denotes-here, placed-in}
use Rattle.eo_run.proofs.Watched.{numbered-later, sees-later}
use Rattle.eo_run.proofs.Taking.{extends-trans}
use Rattle.eo_run.proofs.Ends.{extends-same}
use Rattle.eo_io.specs.Paths.{Extends}
use Rattle.eo_run.proofs.checking.check_path.Goals as goal

pub returns-in_err-at-clause-runs : goal.returns-in_err-at-clause-runs
returns-in_err-at-clause-runs g c =
    let n = c.args.named.now in
    let s : Source = record { path = c.args.path; from = c.in_file.result; wrapped = n.wrapped; opens = n.opens } in
    let told = g.L.Library.told c.args.files.now in
    let old = point c.args.run.now c.args.observer.now c.args.paths.now in
    let mid = point (record c.args.run.now { opened = c.count_opened.new.opened }) c.args.observer.now c.add.new.self in
    let new = point c.check_file.new.run c.check_file.new.observer c.check_file.new.paths in
    let x = c.in_err-at.field-0.0 in
    at_exit (λ (r : Result Place Verdict). RunsNamed g.O.Observer.tells told n r old new) c.from_residual.result x c.from_residual.ensures.1
    (path-stops g.O.Observer.tells told n s old mid new c.requires.folds c.in_file.ensures.same refl refl refl refl c.in-Ok-count_opened.ensures (λ seen sees. sees-later g.O.Observer.tells c.args.observer.now c.args.paths.now c.add.new.self seen c.in-Ok.ensures.grows sees) x c.in_err-at.ensures.runs)

pub returns-in-Some-clause-runs : goal.returns-in-Some-clause-runs
returns-in-Some-clause-runs g c =
    let n = c.args.named.now in
    let s : Source = record { path = c.args.path; from = c.in_file.result; wrapped = n.wrapped; opens = n.opens } in
    path-runs g.O.Observer.tells (g.L.Library.told c.args.files.now) n s (point c.args.run.now c.args.observer.now c.args.paths.now) (point (record c.args.run.now { opened = c.count_opened.new.opened }) c.args.observer.now c.add.new.self) (point c.check_file.new.run c.check_file.new.observer c.check_file.new.paths) c.requires.folds c.in_file.ensures.same refl refl refl refl c.in-Ok-count_opened.ensures (λ seen sees. sees-later g.O.Observer.tells c.args.observer.now c.args.paths.now c.add.new.self seen c.in-Ok.ensures.grows sees)
    c.in-Some.at (record { file = c.in-Ok.file; line = c.at.inside.line; offset = c.at.inside.offset })
    (found c.check_file.new.paths c.args.path.now c.in-Ok.file (numbered-later c.add.new.self c.check_file.new.paths c.in-Ok.file c.args.path.now c.in_ok-at.ensures.keeps.table c.in-Ok.ensures.first))
    (ap (λ (x : Spot). x.line) c.at.view_is) (ap (λ (x : Spot). x.offset) c.at.view_is)
    (subst (λ (o : Option Spot). RunsFile g.O.Observer.tells (g.L.Library.told c.args.files.now) s (Ok o) (point (record c.args.run.now { opened = c.count_opened.new.opened }) c.args.observer.now c.add.new.self) (point c.check_file.new.run c.check_file.new.observer c.check_file.new.paths)) c.in-Some.is c.in_ok-at.ensures.runs)

pub returns-in-Some-clause-kind : goal.returns-in-Some-clause-kind
returns-in-Some-clause-kind g c =
    ap is_some (found c.check_file.new.paths c.args.path.now c.in-Ok.file (numbered-later c.add.new.self c.check_file.new.paths c.in-Ok.file c.args.path.now c.in_ok-at.ensures.keeps.table c.in-Ok.ensures.first))

pub returns-in-None-clause-runs : goal.returns-in-None-clause-runs
returns-in-None-clause-runs g c =
    let n = c.args.named.now in
    let s : Source = record { path = c.args.path; from = c.in_file.result; wrapped = n.wrapped; opens = n.opens } in
    let told = g.L.Library.told c.args.files.now in
    let old = point c.args.run.now c.args.observer.now c.args.paths.now in
    let mid = point (record c.args.run.now { opened = c.count_opened.new.opened }) c.args.observer.now c.add.new.self in
    let new = point c.check_file.new.run c.check_file.new.observer c.check_file.new.paths in
    let paths = c.check_file.new.paths in
    subst (λ (v : Verdict). RunsNamed g.O.Observer.tells told n (Err v) old new) (sym c.refusal_at.ensures)
    (path-absent g.O.Observer.tells told n s old mid new c.requires.folds c.in_file.ensures.same refl refl refl refl c.in-Ok-count_opened.ensures (λ seen sees. sees-later g.O.Observer.tells c.args.observer.now c.args.paths.now c.add.new.self seen c.in-Ok.ensures.grows sees) _
    (denotes-here paths s FileAbsent first_spot
    (numbered-later c.add.new.self paths _ c.args.path.now c.in_ok-at.ensures.keeps.table (c.in-Ok.ensures.first ∙ ap (λ (i : ℕ). Some i) (sym c.in_file.ensures.file))))
    (subst (λ (o : Option Spot). RunsFile g.O.Observer.tells told s (Ok o) mid new) c.in-None.is c.in_ok-at.ensures.runs))

pub returns-in-None-clause-kind : goal.returns-in-None-clause-kind
returns-in-None-clause-kind g c =
    let n = c.args.named.now in
    let s : Source = record { path = c.args.path; from = c.in_file.result; wrapped = n.wrapped; opens = n.opens } in
    let paths = c.check_file.new.paths in
    subst (IsStop paths) (sym c.refusal_at.ensures)
    (placed-in paths s
    (numbered-later c.add.new.self paths _ c.args.path.now c.in_ok-at.ensures.keeps.table (c.in-Ok.ensures.first ∙ ap (λ (i : ℕ). Some i) (sym c.in_file.ensures.file))))

pub returns-in_default-clause-grows : goal.returns-in_default-clause-grows
returns-in_default-clause-grows g c = subst (λ (paths : List (List ℕ)). Extends c.args.paths.now paths) (sym c.in_default.ensures.err) (extends-same c.args.paths.now)

pub returns-in_err-at-clause-grows : goal.returns-in_err-at-clause-grows
returns-in_err-at-clause-grows g c = extends-trans c.args.paths.now c.add.new.self c.check_file.new.paths c.in-Ok.ensures.grows c.in_err-at.ensures.keeps.table

pub returns-in-Some-clause-grows : goal.returns-in-Some-clause-grows
returns-in-Some-clause-grows g c = extends-trans c.args.paths.now c.add.new.self c.check_file.new.paths c.in-Ok.ensures.grows c.in_ok-at.ensures.keeps.table

pub returns-in-None-clause-grows : goal.returns-in-None-clause-grows
returns-in-None-clause-grows g c = extends-trans c.args.paths.now c.add.new.self c.check_file.new.paths c.in-Ok.ensures.grows c.in_ok-at.ensures.keeps.table
