use Rattle.std.proofs.Common.{not, sym, ap, ◌∙◌}
use Rattle.eo_shape.specs.Reading.{read_step}
use Rattle.eo_session.specs.Store.{state_of}
use Rattle.eo_session.specs.State.{State}
use Rattle.eo_session.specs.Step.{is_free_fact}
use Rattle.eo_session.specs.Using.{read_conclusion}
use Rattle.eo_session.proofs.Decided.{step-taken, step-fault, step-ok, decides-refused}
use Rattle.eo_session.proofs.Used.{nothing_discharged}
use Rattle.eo_session.proofs.store.Store.decide_step.Goals as goal

pub conclude_step-requires-clause-assumed : goal.conclude_step-requires-clause-assumed
conclude_step-requires-clause-assumed c = nothing_discharged c.args.self.now.table

pub returns-then-is_taken-clause-decides : goal.returns-then-is_taken-clause-decides
returns-then-is_taken-clause-decides c =
    (step-taken (state_of c.args.self.now) (read_step c.args.shape.now) (sym c.is_taken.ensures ∙ ap not c.if-is_taken.true), λ q. absurd cc)

pub returns-in_err-conclusion-clause-decides : goal.returns-in_err-conclusion-clause-decides
returns-in_err-conclusion-clause-decides c =
    decides-refused _ _ c.from_residual.result c.in_err-conclusion.field-0.0 c.conclude_step.new.self c.from_residual.ensures.1 c.in_err-conclusion.ensures.gives
    (step-fault (state_of c.args.self.now) (read_step c.args.shape.now) (sym c.is_taken.ensures ∙ ap not c.if-is_taken.false))

pub returns-clause-decides : goal.returns-clause-decides
returns-clause-decides c =
    let st = state_of c.args.self.now in
    let s = read_step c.args.shape.now in
    let new = c.conclude_step.new.self in
    let told = c.in_ok-conclusion.ensures in
    let free = sym c.is_taken.ensures ∙ ap not c.if-is_taken.false in
    record {
      live = record { value = told.gives.live; free = ap (λ (z : State). is_free_fact z s.name) told.keeps.same ∙ free };
      is = step-ok st s free (read_conclusion new.table c.in_ok-conclusion.conclusion) told.gives.is;
    }
