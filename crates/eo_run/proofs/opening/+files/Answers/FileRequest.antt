-- What is returned for what a command asks for.
use Rattle.std.proofs.Common.{◌-◌, [], sym, subst, append-nil, inl, inr}
use Rattle.std.specs.Prelude.{Result, Ok}
use Rattle.eo_run.specs.Progress.{point}
use Rattle.eo_run.specs.Opening.{Keeps, Opens}
use Rattle.eo_session.specs.declared.Next.{Next}
use Rattle.eo_session.specs.declared.Next.TheVariants as next
use Rattle.eo_run.specs.declared.Verdict.{Verdict}
use Rattle.eo_base.proofs.Answering.{at_exit}
use Rattle.eo_run.proofs.Taking.{one-less, include-unfolded, refer-unfolded}
use Rattle.eo_run.proofs.Numbers.{opens-done, opens-exit}
use Rattle.eo_run.proofs.Refusals.{unfolded-stop}
use Rattle.eo_run.proofs.opening.+files.Goals as goal

pub open_next-returns-in_err-file-in-Include-clause-opens : goal.open_next-returns-in_err-file-in-Include-clause-opens
open_next-returns-in_err-file-in-Include-clause-opens g t c =
    let s = c.args.source.now in
    let told = g.L.Library.told c.args.files.now in
    let p = point c.args.run.now c.args.observer.now c.args.paths.now in
    let x = c.in_err-file-in-Include.field-0.0 in
    let r = c.from_residual.result in
    subst (λ (n : Next). Opens g.O.Observer.tells told s c.args.at n r p p) (sym c.in-Include.is)
    (at_exit (λ (r : Result (Unit {0}) Verdict). Opens g.O.Observer.tells told s c.args.at (next.Include c.in-Include.name) r p p) r x c.from_residual.ensures.1
    (include-unfolded g.O.Observer.tells told s (s.opens - 1) (one-less s.opens c.if-source-eq0.false) c.args.at p p (λ seen sees. sees) c.requires.ready.numbered c.in-Include.name x c.in_err-file-in-Include.ensures))

pub open_next-returns-in_err-file-in-Reference-clause-opens : goal.open_next-returns-in_err-file-in-Reference-clause-opens
open_next-returns-in_err-file-in-Reference-clause-opens g t c =
    let s = c.args.source.now in
    let told = g.L.Library.told c.args.files.now in
    let p = point c.args.run.now c.args.observer.now c.args.paths.now in
    let x = c.in_err-file-in-Reference.field-0.0 in
    let r = c.from_residual-in_err-file-in-Reference.result in
    subst (λ (n : Next). Opens g.O.Observer.tells told s c.args.at n r p p) (sym c.in-Reference.is)
    (at_exit (λ (r : Result (Unit {0}) Verdict). Opens g.O.Observer.tells told s c.args.at (next.Reference c.in-Reference.name) r p p) r x c.from_residual-in_err-file-in-Reference.ensures.1
    (refer-unfolded g.O.Observer.tells told s (s.opens - 1) (one-less s.opens c.if-source-eq0.false) c.args.at p p (λ seen sees. sees) c.requires.ready.numbered c.in-Reference.name x c.in_err-file-in-Reference.ensures))

pub open_next-returns-in_err-file-in-Include-clause-keeps : goal.open_next-returns-in_err-file-in-Include-clause-keeps
open_next-returns-in_err-file-in-Include-clause-keeps g t c =
    let paths = c.args.paths.now in
    let x = c.in_err-file-in-Include.field-0.0 in
    at_exit (λ (r : Result (Unit {0}) Verdict). Keeps r c.args.run.now paths paths) c.from_residual.result x c.from_residual.ensures.1 record {
      going = tt;
      kind = unfolded-stop paths c.args.source.now c.args.at c.requires.ready.numbered c.in-Include.name x c.in_err-file-in-Include.ensures;
      table = ([], sym (append-nil paths));
    }

pub open_next-returns-in_err-file-in-Reference-clause-keeps : goal.open_next-returns-in_err-file-in-Reference-clause-keeps
open_next-returns-in_err-file-in-Reference-clause-keeps g t c =
    let paths = c.args.paths.now in
    let x = c.in_err-file-in-Reference.field-0.0 in
    at_exit (λ (r : Result (Unit {0}) Verdict). Keeps r c.args.run.now paths paths) c.from_residual-in_err-file-in-Reference.result x c.from_residual-in_err-file-in-Reference.ensures.1 record {
      going = tt;
      kind = unfolded-stop paths c.args.source.now c.args.at c.requires.ready.numbered c.in-Reference.name x c.in_err-file-in-Reference.ensures;
      table = ([], sym (append-nil paths));
    }

pub open_next-returns-in-Done-clause-opens : goal.open_next-returns-in-Done-clause-opens
open_next-returns-in-Done-clause-opens g t c =
    let s = c.args.source.now in
    let told = g.L.Library.told c.args.files.now in
    let p = point c.args.run.now c.args.observer.now c.args.paths.now in
    let left = one-less s.opens c.if-source-eq0.false in
    elim c.in-Done.is [
      | inl e ↦ subst (λ (n : Next). Opens g.O.Observer.tells told s c.args.at n (Ok tt) p p) (sym e) (opens-done g.O.Observer.tells told s c.args.at p tt (s.opens - 1) left)
      | inr e ↦ subst (λ (n : Next). Opens g.O.Observer.tells told s c.args.at n (Ok tt) p p) (sym e) (opens-exit g.O.Observer.tells told s c.args.at p tt (s.opens - 1) left)
    ]
