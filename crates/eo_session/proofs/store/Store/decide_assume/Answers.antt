use Rattle.std.proofs.Common.{not, sym, ap, ◌∙◌}
use Rattle.eo_term.specs.Growth.{tree_in}
use Rattle.eo_session.specs.Store.{state_of}
use Rattle.eo_session.specs.State.{State}
use Rattle.eo_session.specs.Step.{is_free_fact}
use Rattle.eo_session.proofs.Decided.{assume-taken, assume-fault, assume-ok, decides-refused}
use Rattle.eo_session.proofs.store.Store.decide_assume.Goals as goal

pub returns-then-is_taken-clause-decides : goal.returns-then-is_taken-clause-decides
returns-then-is_taken-clause-decides c =
    (assume-taken (state_of c.args.self.now) c.args.name.now c.args.formula.now (sym c.is_taken.ensures ∙ ap not c.if-is_taken.true), λ q. absurd cc)

pub returns-in_err-formula-clause-decides : goal.returns-in_err-formula-clause-decides
returns-in_err-formula-clause-decides c =
    decides-refused _ _ c.from_residual.result c.in_err-formula.field-0.0 c.asserted_formula.new.self c.from_residual.ensures.1 c.in_err-formula.ensures.gives
    (assume-fault (state_of c.args.self.now) c.args.name.now c.args.formula.now (sym c.is_taken.ensures ∙ ap not c.if-is_taken.false))

pub returns-clause-decides : goal.returns-clause-decides
returns-clause-decides c =
    let st = state_of c.args.self.now in
    let name = c.args.name.now in
    let new = c.asserted_formula.new.self in
    let told = c.in_ok-formula.ensures in
    let free = sym c.is_taken.ensures ∙ ap not c.if-is_taken.false in
    record {
      live = record { value = told.value; free = ap (λ (z : State). is_free_fact z name) told.keeps.same ∙ free };
      is = assume-ok st name c.args.formula.now free (tree_in new.table c.in_ok-formula.formula) told.gives.is;
    }
