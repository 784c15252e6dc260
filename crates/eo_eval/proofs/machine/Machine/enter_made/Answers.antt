use Rattle.std.proofs.Common.{◌≡◌, ◌∙◌, [], Ok, length, ap, subst, rules}
use Rattle.eo_sig.specs.Reading.{signature}
use Rattle.eo_stack.specs.Bodies.{MakesBody}
use Rattle.eo_stack.specs.Evaluation.{body_of}
use Rattle.eo_eval.specs.Ready.{called_at}
use Rattle.eo_stack.specs.Scopes.{inner}
use Rattle.eo_eval.proofs.Running.{run_made_told, run_made_ready}
use Rattle.eo_eval.proofs.machine.Machine.enter_made.Goals as goal

pub returns-in_ok-open-in-Ok-2 : goal.returns-in_ok-open-in-Ok-2
returns-in_ok-open-in-Ok-2 c =
    let t = c.args.table.now in
    let e = c.args.self.now in
    let is : c.args.made ≡ Ok c.in-Ok.body = search rules in
    let body = subst (λ r. MakesBody t r (body_of (signature t.trees c.args.sig.now) (called_at t e c.args.place))) is c.requires.body in
    record {
      told = run_made_told c.args.sig.now t c.args.types.now e c.args.place c.requires.called.place c.requires.called.calling (record c.open.new.self { scope = c.open-in-Ok.new.self }) c.in-Ok.body c.args.left (length e.locals.entries) body
          c.in_ok-open-in-Ok.ensures.frames c.open.ensures.values (c.in_ok-open-in-Ok-2.ensures ∙ ap (λ s. inner s 0 []) c.open.ensures.scope) (ap (λ m. m.entries) c.open.ensures.calls);
      ready = run_made_ready c.args.sig.now t c.args.types.now e c.args.place c.requires.called.place c.requires.called.calling (record c.open.new.self { scope = c.open-in-Ok.new.self }) c.in-Ok.body c.args.left (length e.locals.entries) body
          c.in_ok-open-in-Ok.ensures.frames c.open.ensures.values (c.in_ok-open-in-Ok-2.ensures ∙ ap (λ s. inner s 0 []) c.open.ensures.scope) (ap (λ m. m.entries) c.open.ensures.calls) (ap (λ m. m.entries) c.open.ensures.terms) (ap (λ m. m.entries) c.open.ensures.locals);
    }
