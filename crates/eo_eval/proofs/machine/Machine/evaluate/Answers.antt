use Rattle.std.proofs.Common.{◌∙◌, ap, sym, refl}
use Rattle.eo_stack.specs.Evaluation.{Ended}
use Rattle.eo_term.specs.Tree.{Tree}
use Rattle.eo_term.specs.Growth.{tree_in}
use Rattle.eo_sig.specs.Reading.{signature}
use Rattle.eo_eval.proofs.Pushed.{limit_is, first_told, first_ready}
use Rattle.eo_eval.proofs.Values.{told_value}
use Rattle.eo_eval.proofs.machine.Machine.evaluate.Goals as goal

pub loop-init : goal.loop-init
loop-init c =
    let fresh = c.requires.fresh in
    record {
      told = first_told _ limit_is c.args.sig.now c.args.table.now c.args.self.now c.args.id fresh.frames fresh.values fresh.scope fresh.calls;
      ready = first_ready 1_000_000 c.args.sig.now c.args.table.now c.args.types.now c.args.self.now c.args.id fresh c.requires.usable c.requires.fit c.requires.live;
      same = refl;
      kept = λ i u h. h;
      grows = c.laws.ensures c.args.table.now c.args.table.now c.requires.fit.below (c.table_law.ensures.same c.args.table.now);
    }

pub returns-in-Some-clause-gives : goal.returns-in-Some-clause-gives
returns-in-Some-clause-gives c =
    let outcome = sym (ap (λ (r : Ended Tree). r.0) c.loop.invariant.told) ∙ c.in-Some.ensures.told c.args.sig.now c.loop.table in
    record {
      outcome = outcome;
      value = told_value (signature c.args.table.now.trees c.args.sig.now) c.requires.usable (tree_in c.args.table.now c.args.id) c.loop.table _ outcome (c.in-Some.ensures.live _ c.loop.invariant.ready.stands.now_live);
    }
