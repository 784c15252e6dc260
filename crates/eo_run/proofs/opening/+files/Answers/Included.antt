-- What is returned for a file that is included.
use Rattle.std.proofs.Common.{◌-◌, ℕ, [], sym, ap, subst, ◌∙◌, arith, append-nil}
use Rattle.std.specs.Prelude.{Result, Err, Some, IfErr, position, bytes_eq}
use Rattle.eo_base.specs.declared.FaultName.TheVariants.{IncludeDepth}
use Rattle.eo_run.specs.Answer.{AnswerHasCause}
use Rattle.eo_session.specs.Numbered.{number_of}
use Rattle.eo_session.specs.Stepping.{Standing}
use Rattle.eo_run.specs.Progress.{point}
use Rattle.eo_run.specs.Opening.{Keeps, IsNumbered, IsStop, Opens, place_in}
use Rattle.eo_session.specs.declared.Next.TheVariants as next
use Rattle.eo_run.specs.declared.Verdict.{Verdict}
use Rattle.eo_run.proofs.Taking.{includes-again, includes-deep, includes-ends, opened-cause, opened-keeps}
use Rattle.eo_run.proofs.Watched.{numbered-later, sees-later}
use Rattle.eo_run.proofs.Numbers.{denotes-here, placed-in}
use Rattle.eo_run.proofs.opening.+files.Goals as goal

pub include-check_file-end-requires : goal.include-check_file-end-requires
include-check_file-end-requires g t c κs within =
    let s = c.args.source.now in
    let is = c.included_in-inner.ensures in (
      omega (arith, is.opens, c.requires.opens),
      (
        within.0,
        (
          within.1,
          record {
            room = omega (arith, is.opens, c.requires.opens, c.requires.ready.room);
            going = ap (λ (x : Standing). x.ended) c.count_included.ensures.session ∙ c.requires.ready.going;
            numbered = (λ j. position (bytes_eq (is.path j)) c.add.new.self) ∙ c.in-Ok-add.ensures.first ∙ ap (λ (n : ℕ). Some n) (sym is.numbered);
          },
        ),
      ),
    )

pub include-returns-then-is_included-clause-includes : goal.include-returns-then-is_included-clause-includes
include-returns-then-is_included-clause-includes g t c = λ name folds.
    let s = c.args.source.now in
    let file = c.args.file.now in
    includes-again g.O.Observer.tells (g.L.Library.told c.args.files.now) s (s.opens - 1) (omega (arith, c.requires.opens)) c.args.at name (point c.args.run.now c.args.observer.now c.args.paths.now) file folds tt
    (sym c.is_included.ensures ∙ c.if-is_included.true)

pub include-returns-then-source-eq1-clause-includes : goal.include-returns-then-source-eq1-clause-includes
include-returns-then-source-eq1-clause-includes g t c = λ name folds.
    let s = c.args.source.now in
    let told = g.L.Library.told c.args.files.now in
    let file = c.args.file.now in
    let p = point c.args.run.now c.args.observer.now c.args.paths.now in
    let paths = c.args.paths.now in
    let at = c.args.at in
    let new = sym c.is_included.ensures ∙ c.if-is_included.false in
    subst (λ (v : Verdict). Opens g.O.Observer.tells told s at (next.Include name) (Err v) p p) (sym c.refusal_at.ensures)
    (includes-deep g.O.Observer.tells told s (s.opens - 1) (omega (arith, c.requires.opens)) at name p file folds new (record { name = IncludeDepth; place = place_in s at }) p (λ seen sees. sees) (omega (arith, c.if-source-eq1.true)) (denotes-here paths s IncludeDepth at c.requires.ready.numbered))

pub include-returns-then-source-eq1-clause-keeps : goal.include-returns-then-source-eq1-clause-keeps
include-returns-then-source-eq1-clause-keeps g t c =
    let paths = c.args.paths.now in
    record {
      going = tt;
      kind = subst (IsStop paths) (sym c.refusal_at.ensures) (placed-in paths c.args.source.now c.requires.ready.numbered);
      table = ([], sym (append-nil paths));
    }

pub include-returns-clause-includes : goal.include-returns-clause-includes
include-returns-clause-includes g t c = λ name folds.
    let s = c.args.source.now in
    let told = g.L.Library.told c.args.files.now in
    let file = c.args.file.now in
    let p = point c.args.run.now c.args.observer.now c.args.paths.now in
    let end = c.check_file-end in
    let last = point end.new.run end.new.observer end.new.paths in
    let paths = end.new.paths in
    let at = c.args.at in
    let new = sym c.is_included.ensures ∙ c.if-is_included.false in
    let i = c.included_in-inner.result in
    let is = c.included_in-inner.ensures in
    let added : IsNumbered c.add.new.self s = numbered-later c.args.paths.now c.add.new.self (number_of s.from) s.path.now c.in-Ok-add.ensures.grows c.requires.ready.numbered in
    let here : IsNumbered paths s = numbered-later c.add.new.self paths (number_of s.from) s.path.now end.ensures.keeps.table added in
    subst (λ (r : Result (Unit {0}) Verdict). Opens g.O.Observer.tells told s at (next.Include name) r p last) (sym c.verdict_of_inner.ensures)
    (includes-ends g.O.Observer.tells told s (s.opens - 1) (omega (arith, c.requires.opens)) at name p file folds new (s.opens - 2) (omega (arith, c.requires.opens, c.if-source-eq1.false)) i is.path is.same is.plain is.opens
    (point c.count_included.new.run c.args.observer.now c.add.new.self) (ap (λ (x : Standing). x.state) c.count_included.ensures.session) c.in-Ok.ensures.included c.in-Ok.ensures.opened
    (λ seen sees. sees-later g.O.Observer.tells c.args.observer.now c.args.paths.now c.add.new.self seen c.in-Ok-add.ensures.grows sees) end.result last here end.ensures.runs)

pub include-returns-clause-cause : goal.include-returns-clause-cause
include-returns-clause-cause g t c =
    let told = g.L.Library.told c.args.files.now in
    let before = g.L.Library.faults c.args.files.now in
    let now = g.L.Library.faults c.check_file-end.new.files in
    subst (λ (r : Result (Unit {0}) Verdict). IfErr r (λ v. AnswerHasCause v told before now)) (sym c.verdict_of_inner.ensures)
    (opened-cause told c.check_file-end.result c.args.source.now c.args.at before now c.check_file-end.ensures.cause)

pub include-returns-clause-keeps : goal.include-returns-clause-keeps
include-returns-clause-keeps g t c =
    let s = c.args.source.now in
    let run = c.check_file-end.new.run in
    let before = c.args.paths.now in
    let mid = c.add.new.self in
    let after = c.check_file-end.new.paths in
    let grows = c.in-Ok-add.ensures.grows in
    subst (λ (r : Result (Unit {0}) Verdict). Keeps r run before after) (sym c.verdict_of_inner.ensures)
    (opened-keeps c.check_file-end.result run before mid after s c.args.at (numbered-later before mid (number_of s.from) s.path.now grows c.requires.ready.numbered) grows c.check_file-end.ensures.keeps)
