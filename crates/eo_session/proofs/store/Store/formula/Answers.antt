use Rattle.std.proofs.Common.{◌∙◌, sym, ap}
use Rattle.std.specs.Prelude.{Result, ℕ}
use Rattle.eo_term.specs.Terms.{tree_at}
use Rattle.eo_session.specs.Store.{state_of}
use Rattle.eo_session.specs.State.{State}
use Rattle.eo_session.specs.Step.{formula_of, formula}
use Rattle.eo_session.specs.Stepping.{GivesTerm}
use Rattle.eo_session.specs.declared.refused.Refused.{Refused}
use Rattle.eo_base.proofs.Answering.{at_exit}
use Rattle.eo_session.proofs.Sessions.{formula-fault, formula-is, gives-same, refuses_on}
use Rattle.eo_session.proofs.Used.{keeps_on}
use Rattle.eo_session.proofs.store.Store.formula.Goals as goal

pub returns-in_err-id-clause-gives : goal.returns-in_err-id-clause-gives
returns-in_err-id-clause-gives c =
    let st = state_of c.args.self.now in
    let s = c.args.s.now in
    let x = c.in_err-id.field-0.0 in
    at_exit (λ (r : Result ℕ Refused). GivesTerm c.elaborate.new.self r (formula st s)) c.from_residual.result x c.from_residual.ensures.1 (refuses_on _ _ x c.in_err-id.ensures.gives (formula-fault st s))

pub returns-clause-gives : goal.returns-clause-gives
returns-clause-gives c =
    let t = tree_at c.elaborate.new.self.table.trees c.in_ok-id.id in
    gives-same c.formula_of.new.self c.formula_of.result _ _
    (formula-is (state_of c.args.self.now) c.args.s.now t c.in_ok-id.ensures.gives.is ∙ ap (λ (st : State). formula_of st t) (sym c.in_ok-id.ensures.keeps.same))
    c.formula_of.ensures.gives

pub formula_of-requires-clause-whole : goal.formula_of-requires-clause-whole
formula_of-requires-clause-whole c = c.in_ok-id.ensures.keeps.whole

pub formula_of-requires-clause-live : goal.formula_of-requires-clause-live
formula_of-requires-clause-live c = c.in_ok-id.ensures.gives.live

pub returns-in_err-id-clause-keeps : goal.returns-in_err-id-clause-keeps
returns-in_err-id-clause-keeps c = c.in_err-id.ensures.keeps

pub returns-clause-value : goal.returns-clause-value
returns-clause-value c = c.formula_of.ensures.value

pub returns-clause-keeps : goal.returns-clause-keeps
returns-clause-keeps c = keeps_on c.args.self.now c.elaborate.new.self c.formula_of.new.self c.in_ok-id.ensures.keeps c.formula_of.ensures.keeps
