use Rattle.std.proofs.Common.{◌≡◌, ◌<◌, ◌∙◌, Ok, Some, None, length, sym, ap, subst, rules}
use Rattle.std.specs.Prelude.{IfOk}
use Rattle.indexmap.specs.Layout.{set_value_at}
use Rattle.eo_sig.specs.Reading.{signature}
use Rattle.eo_stack.specs.Bodies.{Finds, chosen_case}
use Rattle.eo_eval.specs.Ready.{Calling, Goes, called_at, told_run}
use Rattle.eo_stack.specs.declared.stack.CallMemo.TheVariants as known
use Rattle.eo_eval.proofs.Running.{run_none_told, run_none_ready}
use Rattle.eo_stack.proofs.Unchanged.{grows_same}
use Rattle.eo_eval.proofs.Same.{calling_same}
use Rattle.eo_eval.proofs.machine.Machine.run.Goals as goal

pub returns-in-None-clause-goes : goal.returns-in-None-clause-goes
returns-in-None-clause-goes c =
    let t = c.args.table.now in
    let e = c.args.self.now in
    let none : c.find.result ≡ Ok None = search rules in
    let without = subst (λ r. IfOk r (λ o. Finds t c.find.new.self.subst o (chosen_case (signature t.trees c.args.sig.now) (called_at t e c.args.place)))) none c.find.ensures.found in
    record {
      told = run_none_told c.args.sig.now t c.args.types.now e c.args.place c.requires.called.place c.requires.called.calling c.finish_call.new.self
          (c.finish_call.ensures.work.frames ∙ ap (λ s. s.frames.items) c.find.ensures.same.stack) (c.finish_call.ensures.work.values ∙ ap (λ s. s.values.items) c.find.ensures.same.stack) (c.finish_call.ensures.work.scope ∙ c.find.ensures.same.scope)
          (c.finish_call.ensures.calls ∙ ap (λ m. set_value_at m.entries c.args.place (known.Stuck 1)) c.find.ensures.same.calls) without c.args.left;
      ready = run_none_ready c.args.sig.now t c.args.types.now e c.args.place c.requires.called.place c.requires.called.calling c.finish_call.new.self
          (c.finish_call.ensures.work.frames ∙ ap (λ s. s.frames.items) c.find.ensures.same.stack) (c.finish_call.ensures.work.values ∙ ap (λ s. s.values.items) c.find.ensures.same.stack) (c.finish_call.ensures.work.scope ∙ c.find.ensures.same.scope)
          (c.finish_call.ensures.calls ∙ ap (λ m. set_value_at m.entries c.args.place (known.Stuck 1)) c.find.ensures.same.calls) without (c.finish_call.ensures.terms ∙ ap (λ m. m.entries) c.find.ensures.same.terms) (c.finish_call.ensures.locals ∙ ap (λ m. m.entries) c.find.ensures.same.locals);
    }

pub returns-in_err-body-clause-grows : goal.returns-in_err-body-clause-grows
returns-in_err-body-clause-grows c = grows_same c.requires.called.calling.held.fit

pub returns-in-None-clause-grows : goal.returns-in-None-clause-grows
returns-in-None-clause-grows c = grows_same c.requires.called.calling.held.fit

pub enter_body-requires : goal.enter_body-requires
enter_body-requires c =
    let k = c.args.sig.now in
    let t = c.args.table.now in
    let e = c.args.self.now in
    let later = c.find.new.self in
    let f = c.find.ensures.same in
    let call : called_at t e c.args.place ≡ called_at t later c.args.place = (λ i. called_at t (record e { calls = sym f.calls i }) c.args.place) in
    record {
      called = record {
        place = subst (λ m. c.args.place < length m.entries) (sym f.calls) c.requires.called.place;
        calling = subst (Calling k t c.args.types.now later) call (calling_same k t c.args.types.now e later (ap (λ m. m.entries) f.calls) (called_at t e c.args.place) (ap (λ s. s.frames.items) f.stack) (ap (λ s. s.values.items) f.stack) f.scope (ap (λ m. m.entries) f.terms) (ap (λ m. m.entries) f.locals) c.requires.called.calling);
      };
      found = subst (λ y. Finds t later.subst (Some c.in-Some.body) (chosen_case (signature t.trees k) y)) call
          (subst (λ o. Finds t later.subst o (chosen_case (signature t.trees k) (called_at t e c.args.place))) c.in-Some.is c.in_ok-body.ensures.found);
    }

pub returns-in-Some-clause-goes : goal.returns-in-Some-clause-goes
returns-in-Some-clause-goes c =
    let k = c.args.sig.now in
    let t = c.args.table.now in
    let e = c.args.self.now in
    let f = c.find.ensures.same in
    let later = c.find.new.self in
    let same : told_run k t later (called_at t later c.args.place) c.args.left ≡ told_run k t e (called_at t e c.args.place) c.args.left =
    (λ i. told_run k t (record e { stack = f.stack i; scope = f.scope i; calls = f.calls i }) (called_at t (record e { calls = f.calls i }) c.args.place) c.args.left) in
    subst (λ o. IfOk c.enter_body.result (Goes k c.enter_body.new.table c.args.types.now c.enter_body.new.self o)) same c.enter_body.ensures.goes
