use Rattle.std.proofs.Common.{sym, ap, subst}
use Rattle.std.specs.Prelude.{IfOk}
use Rattle.eo_stack.specs.Reading.{IsResult}
use Rattle.eo_eval.specs.Ready.{Ready, Goes, outcome_from}
use Rattle.eo_stack.proofs.Unchanged.{extends_same}
use Rattle.eo_eval.proofs.machine.Machine.turn.Goals as goal

pub enter-requires : goal.enter-requires
enter-requires c =
    record { ready = subst (Ready c.args.sig.now c.args.table.now c.args.types.now c.args.self.now) c.in-Eval.is c.requires.ready }

pub give-requires : goal.give-requires
give-requires c = record { result = subst IsResult (sym c.in-Value.is) tt; ready = c.requires.ready }

pub give-requires-in-Stuck : goal.give-requires-in-Stuck
give-requires-in-Stuck c = record { result = subst IsResult (sym c.in-Stuck.is) tt; ready = c.requires.ready }

pub returns-in-Eval : goal.returns-in-Eval
returns-in-Eval c =
    let k = c.args.sig.now in
    let o = c.enter.ensures in
    record {
      goes = subst (λ m. IfOk c.enter.result (Goes k c.enter.new.table c.enter.new.types c.enter.new.self (outcome_from k c.args.table.now c.args.self.now m))) (sym c.in-Eval.is) o.goes;
      extends = o.extends;
    }

pub returns-in-Deep : goal.returns-in-Deep
returns-in-Deep c =
    let r = c.requires.ready in
    record {
      goes = record { told = ap (outcome_from c.args.sig.now c.args.table.now c.args.self.now) (sym c.in-Deep.is); ready = subst (Ready c.args.sig.now c.args.table.now c.args.types.now c.args.self.now) c.in-Deep.is r };
      extends = extends_same r.held.fit;
    }

pub returns-in-Calls : goal.returns-in-Calls
returns-in-Calls c =
    let r = c.requires.ready in
    record {
      goes = record { told = ap (outcome_from c.args.sig.now c.args.table.now c.args.self.now) (sym c.in-Calls.is); ready = subst (Ready c.args.sig.now c.args.table.now c.args.types.now c.args.self.now) c.in-Calls.is r };
      extends = extends_same r.held.fit;
    }

pub returns-in-Range : goal.returns-in-Range
returns-in-Range c =
    let r = c.requires.ready in
    record {
      goes = record { told = ap (outcome_from c.args.sig.now c.args.table.now c.args.self.now) (sym c.in-Range.is); ready = subst (Ready c.args.sig.now c.args.table.now c.args.types.now c.args.self.now) c.in-Range.is r };
      extends = extends_same r.held.fit;
    }

pub returns-in-Tall : goal.returns-in-Tall
returns-in-Tall c =
    let r = c.requires.ready in
    record {
      goes = record { told = ap (outcome_from c.args.sig.now c.args.table.now c.args.self.now) (sym c.in-Tall.is); ready = subst (Ready c.args.sig.now c.args.table.now c.args.types.now c.args.self.now) c.in-Tall.is r };
      extends = extends_same r.held.fit;
    }
