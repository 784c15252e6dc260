use Rattle.std.proofs.Common.{◌≡◌, ◌∙◌, sym, ap, subst}
use Rattle.std.specs.Prelude.{IfOk}
use Rattle.eo_term.specs.Terms.{tree_at}
use Rattle.eo_sig.specs.Reading.{signature}
use Rattle.eo_pattern.specs.Slots.{held}
use Rattle.eo_stack.specs.Bodies.{MakesBody}
use Rattle.eo_stack.specs.Evaluation.{body_of}
use Rattle.eo_eval.specs.Ready.{Calling, Goes, called_at, told_run}
use Rattle.eo_eval.proofs.Entered.{body_some}
use Rattle.eo_eval.proofs.Grown.{calling_grown, called_grown, run_told_grown}
use Rattle.eo_eval.proofs.Making.{makes_body}
use Rattle.eo_eval.proofs.machine.Machine.make_body.Goals as goal

pub enter_made-requires-clause-called : goal.enter_made-requires-clause-called
enter_made-requires-clause-called c =
    let k = c.args.sig.now in
    let old = c.args.table.now in
    let new = c.substitute-made.new.table in
    let e = c.args.self.now in
    let typed = c.args.types.now in
    let h = c.requires.called.calling in
    let u = c.laws.ensures old new h.held.fit.below c.substitute-made.ensures.grows in
    let fit = c.laws-2.ensures.grown k old new u.table.now h.held.fit in
    record {
      place = c.requires.called.place;
      calling = subst (Calling k new typed e) (sym (called_grown k old new u e typed typed fit h.held c.args.place)) (calling_grown k old new u e typed typed fit (called_at old e c.args.place) h);
    }

pub enter_made-requires-clause-body : goal.enter_made-requires-clause-body
enter_made-requires-clause-body c =
    let k = c.args.sig.now in
    let old = c.args.table.now in
    let new = c.substitute-made.new.table in
    let e = c.args.self.now in
    let typed = c.args.types.now in
    let h = c.requires.called.calling in
    let u = c.laws.ensures old new h.held.fit.below c.substitute-made.ensures.grows in
    let fit = c.laws-2.ensures.grown k old new u.table.now h.held.fit in
    let x = called_at old e c.args.place in
    let r = c.substitute-made.result in
    let is = body_some (signature old.trees k) x (held old.trees e.subst) (tree_at old.trees c.args.body) c.requires.found.case in
    let body = makes_body old new e.subst c.args.body r (body_of (signature old.trees k) x) is c.substitute-made.ensures.made c.substitute-made.ensures.tall in
    subst (λ S. MakesBody new r (body_of S (called_at new e c.args.place))) (sym u.stays.signature)
    (subst (λ x. MakesBody new r (body_of (signature old.trees k) x)) (sym (called_grown k old new u e typed typed fit h.held c.args.place)) body)

pub returns-clause-goes : goal.returns-clause-goes
returns-clause-goes c =
    let k = c.args.sig.now in
    let old = c.args.table.now in
    let new = c.substitute-made.new.table in
    let e = c.args.self.now in
    let typed = c.args.types.now in
    let h = c.requires.called.calling in
    let u = c.laws.ensures old new h.held.fit.below c.substitute-made.ensures.grows in
    let fit = c.laws-2.ensures.grown k old new u.table.now h.held.fit in
    let x = called_at old e c.args.place in
    let same : told_run k new e (called_at new e c.args.place) c.args.left ≡ told_run k old e x c.args.left =
    ap (λ y. told_run k new e y c.args.left) (called_grown k old new u e typed typed fit h.held c.args.place) ∙ run_told_grown k old new u e typed typed fit x c.args.left h in
    subst (λ o. IfOk c.enter_made.result (Goes k new typed c.enter_made.new.self o)) same c.enter_made.ensures
