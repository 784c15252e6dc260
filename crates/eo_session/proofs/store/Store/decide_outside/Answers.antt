use Rattle.std.proofs.Common.{ap, ◌∙◌}
use Rattle.eo_shape.specs.Reading.{read_step}
use Rattle.eo_term.specs.Growth.{tree_in}
use Rattle.eo_session.specs.Store.{state_of}
use Rattle.eo_session.specs.State.{State, without_scope}
use Rattle.eo_session.specs.Step.{is_free_fact}
use Rattle.eo_session.specs.Using.{read_conclusion}
use Rattle.eo_session.proofs.Concluding.{outside-fault, outside-ok}
use Rattle.eo_session.proofs.Decided.{decides-refused}
use Rattle.eo_session.proofs.Used.{discharges_innermost, free_outside}
use Rattle.eo_session.proofs.store.Store.decide_outside.Goals as goal

pub conclude_step-requires-clause-assumed : goal.conclude_step-requires-clause-assumed
conclude_step-requires-clause-assumed c = discharges_innermost c.args.self.now c.requires.whole c.args.assumed c.requires.live c.requires.assumed

pub returns-in_err-conclusion-clause-decides : goal.returns-in_err-conclusion-clause-decides
returns-in_err-conclusion-clause-decides c =
    let h = c.args.self.now in
    decides-refused _ _ c.from_residual.result c.in_err-conclusion.field-0.0 c.conclude_step.new.self c.from_residual.ensures.1 c.in_err-conclusion.ensures.gives
    (outside-fault (state_of h) (read_step c.args.shape.now) (tree_in h.table c.args.assumed))

pub returns-clause-decides : goal.returns-clause-decides
returns-clause-decides c =
    let h = c.args.self.now in
    let st = state_of h in
    let s = read_step c.args.shape.now in
    let new = c.conclude_step.new.self in
    let told = c.in_ok-conclusion.ensures in
    record {
      live = record { value = told.gives.live; free = ap (λ (z : State). is_free_fact (without_scope z) s.name) told.keeps.same ∙ free_outside st s.name c.requires.free };
      is = outside-ok st s (tree_in h.table c.args.assumed) (read_conclusion new.table c.in_ok-conclusion.conclusion) told.gives.is;
    }
