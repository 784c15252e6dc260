use Rattle.std.proofs.Common.{false, refl, sym, ap, ◌∙◌, ℕ, List, Some}
use Rattle.std.specs.Prelude.{Result, Ok, Err}
use Rattle.eo_io.specs.Library.{Files}
use Rattle.eo_run.specs.Judging.{RunsPart}
use Rattle.eo_run.specs.Progress.{point, progress_at}
use Rattle.eo_run.specs.Run.{if_given, run_signature}
use Rattle.eo_session.specs.declared.Origin.TheVariants.{Signature}
use Rattle.eo_run.specs.declared.Verdict.{Verdict}
use Rattle.eo_run.specs.declared.checking.Named.{Named}
use Rattle.eo_base.proofs.Answering.{at_exit}
use Rattle.eo_run.proofs.Jobs.{part-runs, part-stops, part-some, is-signature}
use Rattle.eo_run.proofs.Ends.{extends-same}
use Rattle.eo_run.proofs.checking.check_include.Goals as goal

pub returns-in_err-check_named-clause-runs : goal.returns-in_err-check_named-clause-runs
returns-in_err-check_named-clause-runs g c =
    let n : Named = record { name = c.as_bytes.result; from = Signature 0; wrapped = false; opens = 17 } in
    let told = g.L.Library.told c.args.files.now in
    let old = point c.args.run.now c.args.observer.now c.args.paths.now in
    let new = point c.check_named.new.run c.check_named.new.observer c.check_named.new.paths in
    let name = c.as_bytes.result.now in
    let x = c.in_err-check_named.field-0.0 in
    at_exit (λ (r : Result (Unit {0}) Verdict). RunsPart g.O.Observer.tells told (λ (f : Files). if_given (run_signature f) c.args.name.now) r old new) c.from_residual.result x c.from_residual.ensures.1
    (part-some g.O.Observer.tells told run_signature c.args.name.now name old new (Err x) (c.in-Some.is ∙ ap (λ (x : List ℕ). Some x) (sym c.as_bytes.ensures.value))
    (part-stops g.O.Observer.tells told n old old new (λ seen sees. sees) (λ (f : Files). run_signature f name) (λ files seen. is-signature n (progress_at old seen) files refl refl refl) x c.in_err-check_named.ensures.runs))

pub returns-clause-runs : goal.returns-clause-runs
returns-clause-runs g c =
    let n : Named = record { name = c.as_bytes.result; from = Signature 0; wrapped = false; opens = 17 } in
    let told = g.L.Library.told c.args.files.now in
    let old = point c.args.run.now c.args.observer.now c.args.paths.now in
    let new = point c.check_named.new.run c.check_named.new.observer c.check_named.new.paths in
    let name = c.as_bytes.result.now in
    part-some g.O.Observer.tells told run_signature c.args.name.now name old new (Ok tt) (c.in-Some.is ∙ ap (λ (x : List ℕ). Some x) (sym c.as_bytes.ensures.value))
    (part-runs g.O.Observer.tells told n old old new (λ seen sees. sees) (λ (f : Files). run_signature f name) (λ files seen. is-signature n (progress_at old seen) files refl refl refl) c.in_ok-check_named.field-0 tt c.in_ok-check_named.ensures.runs)

pub returns-in_default-clause-grows : goal.returns-in_default-clause-grows
returns-in_default-clause-grows g c = extends-same c.args.paths.now
