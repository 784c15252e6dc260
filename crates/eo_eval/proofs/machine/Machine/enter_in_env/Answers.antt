use Rattle.std.proofs.Common.{◌≡◌, ◌∙◌, length, suc, ap, rules}
use Rattle.eo_stack.specs.Scopes.{inner}
use Rattle.eo_eval.proofs.Running.{run_light_told, run_light_ready}
use Rattle.eo_eval.proofs.machine.Machine.enter_in_env.Goals as goal

pub returns : goal.returns
returns c =
    let e = c.args.self.now in
    let here = c.in-Some.here in
    let at : here ≡ suc c.args.place = search rules in
    let slots : c.slots.result.now ≡ e.subst.values = c.slots.ensures ∙ ap (λ s. s.values) c.open.ensures.subst in
    record {
      told = run_light_told c.args.sig.now c.args.table.now c.args.types.now e c.args.place c.requires.called.place c.requires.called.calling (record c.open.new.self { scope = c.open-2.new.self }) here c.args.body c.args.left (length e.locals.entries) e.subst c.requires.found c.requires.low at
          c.in_ok-open.ensures.frames c.open.ensures.values (c.in_ok-open-2.ensures ∙ (λ j. inner (c.open.ensures.scope j) here (slots j))) (ap (λ m. m.entries) c.open.ensures.calls);
      ready = run_light_ready c.args.sig.now c.args.table.now c.args.types.now e c.args.place c.requires.called.place c.requires.called.calling (record c.open.new.self { scope = c.open-2.new.self }) here c.args.body c.args.left (length e.locals.entries) e.subst c.requires.found c.requires.low at
          c.in_ok-open.ensures.frames c.open.ensures.values (c.in_ok-open-2.ensures ∙ (λ j. inner (c.open.ensures.scope j) here (slots j))) (ap (λ m. m.entries) c.open.ensures.calls) (ap (λ m. m.entries) c.open.ensures.terms) (ap (λ m. m.entries) c.open.ensures.locals) c.requires.values;
    }
