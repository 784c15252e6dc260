-- What is returned for a reference file.
use Rattle.std.proofs.Common.{◌-◌, [], false, refl, sym, subst, arith, append-nil}
use Rattle.std.specs.Prelude.{Result, IfErr}
use Rattle.eo_run.specs.Answer.{AnswerHasCause}
use Rattle.eo_session.specs.Numbered.{number_of}
use Rattle.eo_run.specs.Progress.{point}
use Rattle.eo_run.specs.Opening.{Keeps, IsNumbered, Opens}
use Rattle.eo_session.specs.declared.Next.TheVariants as next
use Rattle.eo_session.specs.declared.Origin.TheVariants as code
use Rattle.eo_run.specs.declared.Verdict.{Verdict}
use Rattle.eo_run.specs.declared.opening.Source.{Source}
use Rattle.eo_base.proofs.Answering.{at_exit}
use Rattle.eo_run.proofs.Taking.{refer-unbegun, unbegun-present, refers-ends, opened-cause, opened-keeps}
use Rattle.eo_run.proofs.Watched.{numbered-later, sees-later}
use Rattle.eo_run.proofs.Refusals.{unbegun-stop}
use Rattle.eo_run.proofs.opening.+files.Goals as goal

pub refer-check_file-end-requires : goal.refer-check_file-end-requires
refer-check_file-end-requires g t c κs within = (
  omega (arith, c.requires.opens),
  (
    within.0,
    (
      within.1,
      record {
        room = omega (arith, c.requires.opens, c.requires.ready.room);
        going = c.in_ok-begin_reference_at.ensures.going;
        numbered = c.in-Ok.ensures.first;
      },
    ),
  ),
)

pub refer-returns-in_err-begin_reference_at-clause-refers : goal.refer-returns-in_err-begin_reference_at-clause-refers
refer-returns-in_err-begin_reference_at-clause-refers g t c = λ name folds.
    let s = c.args.source.now in
    let told = g.L.Library.told c.args.files.now in
    let p = point c.args.run.now c.args.observer.now c.args.paths.now in
    let last = point c.begin_reference_at.new.run c.args.observer.now c.args.paths.now in
    let x = c.in_err-begin_reference_at.field-0.0 in
    at_exit (λ (r : Result (Unit {0}) Verdict). Opens g.O.Observer.tells told s c.args.at (next.Reference name) r p last) c.from_residual.result x c.from_residual.ensures.1
    (refer-unbegun g.O.Observer.tells told s (s.opens - 1) (omega (arith, c.requires.opens)) c.args.at p last (λ seen sees. sees) c.requires.ready.numbered name c.args.file.now folds x c.begin_reference_at.new.run.session.state c.in_err-begin_reference_at.ensures.begins)

pub refer-returns-in_err-begin_reference_at-clause-cause : goal.refer-returns-in_err-begin_reference_at-clause-cause
refer-returns-in_err-begin_reference_at-clause-cause g t c =
    let told = g.L.Library.told c.args.files.now in
    let n = g.L.Library.faults c.args.files.now in
    let x = c.in_err-begin_reference_at.field-0.0 in
    at_exit (λ (r : Result (Unit {0}) Verdict). IfErr r (λ v. AnswerHasCause v told n n)) c.from_residual.result x c.from_residual.ensures.1
    (unbegun-present told c.args.source.now c.args.at x c.args.run.now.session.state c.begin_reference_at.new.run.session.state n n c.in_err-begin_reference_at.ensures.begins)

pub refer-returns-in_err-begin_reference_at-clause-keeps : goal.refer-returns-in_err-begin_reference_at-clause-keeps
refer-returns-in_err-begin_reference_at-clause-keeps g t c =
    let paths = c.args.paths.now in
    let x = c.in_err-begin_reference_at.field-0.0 in
    at_exit (λ (r : Result (Unit {0}) Verdict). Keeps r c.begin_reference_at.new.run paths paths) c.from_residual.result x c.from_residual.ensures.1 record {
      going = tt;
      kind = unbegun-stop paths c.args.source.now c.args.at c.requires.ready.numbered x c.args.run.now.session.state c.begin_reference_at.new.run.session.state c.in_err-begin_reference_at.ensures.begins;
      table = ([], sym (append-nil paths));
    }

pub refer-returns-clause-refers : goal.refer-returns-clause-refers
refer-returns-clause-refers g t c = λ name folds.
    let s = c.args.source.now in
    let told = g.L.Library.told c.args.files.now in
    let p = point c.args.run.now c.args.observer.now c.args.paths.now in
    let end = c.check_file-end in
    let last = point end.new.run end.new.observer end.new.paths in
    let paths = end.new.paths in
    let at = c.args.at in
    let st = c.begin_reference_at.new.run.session.state in
    let i : Source = record { path = c.args.file; from = code.Reference c.in-Ok.number; wrapped = false; opens = 0 } in
    let added : IsNumbered c.add.new.self s = numbered-later c.args.paths.now c.add.new.self (number_of s.from) s.path.now c.in-Ok.ensures.grows c.requires.ready.numbered in
    let here : IsNumbered paths s = numbered-later c.add.new.self paths (number_of s.from) s.path.now end.ensures.keeps.table added in
    subst (λ (r : Result (Unit {0}) Verdict). Opens g.O.Observer.tells told s at (next.Reference name) r p last) (sym c.verdict_of_inner.ensures)
    (refers-ends g.O.Observer.tells told s (s.opens - 1) (omega (arith, c.requires.opens)) at name p c.args.file.now folds i refl refl refl refl
    (point c.begin_reference_at.new.run c.args.observer.now c.add.new.self) c.in_ok-begin_reference_at.ensures.begins c.in_ok-begin_reference_at.ensures.included c.in_ok-begin_reference_at.ensures.opened
    (λ seen sees. sees-later g.O.Observer.tells c.args.observer.now c.args.paths.now c.add.new.self seen c.in-Ok.ensures.grows sees) end.result last here end.ensures.runs)

pub refer-returns-clause-cause : goal.refer-returns-clause-cause
refer-returns-clause-cause g t c =
    let told = g.L.Library.told c.args.files.now in
    let before = g.L.Library.faults c.args.files.now in
    let now = g.L.Library.faults c.check_file-end.new.files in
    subst (λ (r : Result (Unit {0}) Verdict). IfErr r (λ v. AnswerHasCause v told before now)) (sym c.verdict_of_inner.ensures)
    (opened-cause told c.check_file-end.result c.args.source.now c.args.at before now c.check_file-end.ensures.cause)

pub refer-returns-clause-keeps : goal.refer-returns-clause-keeps
refer-returns-clause-keeps g t c =
    let s = c.args.source.now in
    let run = c.check_file-end.new.run in
    let before = c.args.paths.now in
    let mid = c.add.new.self in
    let after = c.check_file-end.new.paths in
    let grows = c.in-Ok.ensures.grows in
    subst (λ (r : Result (Unit {0}) Verdict). Keeps r run before after) (sym c.verdict_of_inner.ensures)
    (opened-keeps c.check_file-end.result run before mid after s c.args.at (numbered-later before mid (number_of s.from) s.path.now grows c.requires.ready.numbered) grows c.check_file-end.ensures.keeps)
