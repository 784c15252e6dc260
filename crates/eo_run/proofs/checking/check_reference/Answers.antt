use Rattle.std.proofs.Common.{false, refl, sym, ap, ◌∙◌, ℕ, List, Some}
use Rattle.std.specs.Prelude.{Result, Ok, Err, IfErr}
use Rattle.eo_io.specs.Library.{Files}
use Rattle.eo_run.specs.Answer.{AnswerHasCause}
use Rattle.eo_run.specs.Judging.{RunsPart}
use Rattle.eo_run.specs.Opening.{StillSees}
use Rattle.eo_run.specs.Progress.{point, progress_at}
use Rattle.eo_run.specs.Run.{if_given, run_job_reference}
use Rattle.eo_session.specs.declared.Origin.TheVariants.{Reference}
use Rattle.eo_run.specs.declared.Verdict.{Verdict}
use Rattle.eo_run.specs.declared.checking.Named.{Named}
use Rattle.eo_base.proofs.Answering.{at_exit}
use Rattle.eo_run.proofs.Jobs.{part-runs, part-stops, part-some, is-reference, second-stops, second-cause}
use Rattle.eo_run.proofs.Watched.{sees-later}
use Rattle.eo_run.proofs.Taking.{extends-trans}
use Rattle.eo_run.proofs.Ends.{extends-same}
use Rattle.eo_run.proofs.checking.check_reference.Goals as goal

pub returns-in_err-begin_named-clause-runs : goal.returns-in_err-begin_named-clause-runs
returns-in_err-begin_named-clause-runs g c =
    let told = g.L.Library.told c.args.files.now in
    let old = point c.args.run.now c.args.observer.now c.args.paths.now in
    let st = c.begin_named.new.session.state in
    let new = point (record c.args.run.now { session = c.begin_named.new.session }) c.args.observer.now c.begin_named.new.paths in
    let name = c.as_bytes.result.now in
    let x = c.in_err-begin_named.field-0.0 in
    at_exit (λ (r : Result (Unit {0}) Verdict). RunsPart g.O.Observer.tells told (λ (f : Files). if_given (run_job_reference f) c.args.name.now) r old new) c.from_residual.result x c.from_residual.ensures.1
    (part-some g.O.Observer.tells told run_job_reference c.args.name.now name old new (Err x) (c.in-Some.is ∙ ap (λ (x : List ℕ). Some x) (sym c.as_bytes.ensures.value))
    (second-stops g.O.Observer.tells told name old new x st (λ seen sees. sees-later g.O.Observer.tells c.args.observer.now c.args.paths.now c.begin_named.new.paths seen c.begin_named.ensures.grows sees) c.in_err-begin_named.ensures.begins))

pub returns-in_err-begin_named-clause-cause : goal.returns-in_err-begin_named-clause-cause
returns-in_err-begin_named-clause-cause g c =
    let told = g.L.Library.told c.args.files.now in
    let before = g.L.Library.faults c.args.files.now in
    let x = c.in_err-begin_named.field-0.0 in
    at_exit (λ (r : Result (Unit {0}) Verdict). IfErr r (λ (v : Verdict). AnswerHasCause v told before before)) c.from_residual.result x c.from_residual.ensures.1
    (second-cause told c.as_bytes.result.now c.begin_named.new.paths x _ _ before before c.in_err-begin_named.ensures.begins)

pub returns-in_err-check_named-clause-runs : goal.returns-in_err-check_named-clause-runs
returns-in_err-check_named-clause-runs g c =
    let n : Named = record { name = c.as_bytes-2.result; from = Reference 0; wrapped = false; opens = 0 } in
    let told = g.L.Library.told c.args.files.now in
    let old = point c.args.run.now c.args.observer.now c.args.paths.now in
    let st = c.begin_named.new.session.state in
    let mid = point (record c.args.run.now { session = c.begin_named.new.session }) c.args.observer.now c.begin_named.new.paths in
    let still : StillSees g.O.Observer.tells old mid = λ seen sees. sees-later g.O.Observer.tells c.args.observer.now c.args.paths.now c.begin_named.new.paths seen c.begin_named.ensures.grows sees in
    let new = point c.check_named.new.run c.check_named.new.observer c.check_named.new.paths in
    let name = c.as_bytes-2.result.now in
    let x = c.in_err-check_named.field-0.0 in
    at_exit (λ (r : Result (Unit {0}) Verdict). RunsPart g.O.Observer.tells told (λ (f : Files). if_given (run_job_reference f) c.args.name.now) r old new) c.from_residual-in_err-check_named.result x c.from_residual-in_err-check_named.ensures.1
    (part-some g.O.Observer.tells told run_job_reference c.args.name.now name old new (Err x) (c.in-Some.is ∙ ap (λ (x : List ℕ). Some x) (sym c.as_bytes-2.ensures.value))
    (part-stops g.O.Observer.tells told n old mid new still (λ (f : Files). run_job_reference f name)
    (λ files seen. is-reference n (progress_at mid seen) files refl (progress_at old seen) st c.in_ok-begin_named.ensures.begins refl refl refl) x c.in_err-check_named.ensures.runs))

pub returns-clause-runs : goal.returns-clause-runs
returns-clause-runs g c =
    let n : Named = record { name = c.as_bytes-2.result; from = Reference 0; wrapped = false; opens = 0 } in
    let told = g.L.Library.told c.args.files.now in
    let old = point c.args.run.now c.args.observer.now c.args.paths.now in
    let st = c.begin_named.new.session.state in
    let mid = point (record c.args.run.now { session = c.begin_named.new.session }) c.args.observer.now c.begin_named.new.paths in
    let still : StillSees g.O.Observer.tells old mid = λ seen sees. sees-later g.O.Observer.tells c.args.observer.now c.args.paths.now c.begin_named.new.paths seen c.begin_named.ensures.grows sees in
    let new = point c.check_named.new.run c.check_named.new.observer c.check_named.new.paths in
    let name = c.as_bytes-2.result.now in
    part-some g.O.Observer.tells told run_job_reference c.args.name.now name old new (Ok tt) (c.in-Some.is ∙ ap (λ (x : List ℕ). Some x) (sym c.as_bytes-2.ensures.value))
    (part-runs g.O.Observer.tells told n old mid new still (λ (f : Files). run_job_reference f name)
    (λ files seen. is-reference n (progress_at mid seen) files refl (progress_at old seen) st c.in_ok-begin_named.ensures.begins refl refl refl) c.in_ok-check_named.field-0 tt c.in_ok-check_named.ensures.runs)

pub returns-in_default-clause-grows : goal.returns-in_default-clause-grows
returns-in_default-clause-grows g c = extends-same c.args.paths.now

pub returns-in_err-check_named-clause-grows : goal.returns-in_err-check_named-clause-grows
returns-in_err-check_named-clause-grows g c = extends-trans c.args.paths.now c.begin_named.new.paths c.check_named.new.paths c.begin_named.ensures.grows c.check_named.ensures.grows

pub returns-clause-grows : goal.returns-clause-grows
returns-clause-grows g c = extends-trans c.args.paths.now c.begin_named.new.paths c.check_named.new.paths c.begin_named.ensures.grows c.check_named.ensures.grows
