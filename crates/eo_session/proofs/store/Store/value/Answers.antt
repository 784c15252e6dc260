use Rattle.std.proofs.Common.{◌∙◌, sym, ap}
use Rattle.std.specs.Prelude.{Result, ℕ}
use Rattle.eo_term.specs.Terms.{tree_at}
use Rattle.eo_session.specs.Store.{state_of}
use Rattle.eo_session.specs.State.{State}
use Rattle.eo_session.specs.Step.{evaluated, value}
use Rattle.eo_session.specs.Stepping.{GivesTerm}
use Rattle.eo_session.specs.declared.refused.Refused.{Refused}
use Rattle.eo_base.proofs.Answering.{at_exit}
use Rattle.eo_session.proofs.Sessions.{value-fault, value-is, gives-same, refuses_on}
use Rattle.eo_session.proofs.store.Store.value.Goals as goal

pub returns-in_err-id-clause-gives : goal.returns-in_err-id-clause-gives
returns-in_err-id-clause-gives c =
    let st = state_of c.args.self.now in
    let s = c.args.s.now in
    let x = c.in_err-id.field-0.0 in
    at_exit (λ (r : Result ℕ Refused). GivesTerm c.elaborate.new.self r (value st s)) c.from_residual.result x c.from_residual.ensures.1 (refuses_on _ _ x c.in_err-id.ensures.gives (value-fault st s))

pub returns-clause-gives : goal.returns-clause-gives
returns-clause-gives c =
    let t = tree_at c.elaborate.new.self.table.trees c.in_ok-id.id in
    gives-same c.evaluate.new.self c.evaluate.result _ _
    (value-is (state_of c.args.self.now) c.args.s.now t c.in_ok-id.ensures.gives.is ∙ ap (λ (st : State). evaluated st t) (sym c.in_ok-id.ensures.keeps.same))
    c.evaluate.ensures.gives
