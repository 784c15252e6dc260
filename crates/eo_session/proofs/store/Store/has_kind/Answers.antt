use Rattle.std.proofs.Common.{sym}
use Rattle.std.specs.Prelude.{Result, Bool}
use Rattle.eo_term.specs.Terms.{tree_at}
use Rattle.eo_session.specs.Store.{state_of}
use Rattle.eo_session.specs.Step.{typed}
use Rattle.eo_session.specs.Stepping.{of_rule, GivesKind}
use Rattle.eo_session.specs.declared.refused.Refused.{Refused}
use Rattle.eo_base.proofs.Answering.{at_exit}
use Rattle.eo_session.proofs.Faults.{present-typed, refuses_rule}
use Rattle.eo_session.proofs.store.Store.has_kind.Goals as goal

pub returns-in_err-ty-clause-gives : goal.returns-in_err-ty-clause-gives
returns-in_err-ty-clause-gives c =
    let st = state_of c.args.self.now in
    let v = tree_at c.args.self.now.table.trees c.args.id in
    let x = c.in_err-ty.field-0.0 in
    at_exit (λ (r : Result Bool Refused). GivesKind c.args.number r (typed st v)) c.from_residual.result (of_rule x) c.from_residual.ensures.1
    (refuses_rule _ _ x (present-typed st.signature v) c.in_err-ty.ensures.gives (λ name h. h))

pub returns-clause-gives : goal.returns-clause-gives
returns-clause-gives c = (tree_at c.type_of.new.self.table.trees c.in_ok-ty.ty, c.in_ok-ty.ensures.gives.is, sym c.is_constant.ensures)
