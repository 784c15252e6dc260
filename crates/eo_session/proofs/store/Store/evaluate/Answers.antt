use Rattle.std.proofs.Common.{refl, ◌∙◌}
use Rattle.std.specs.Prelude.{Result, ℕ}
use Rattle.eo_term.specs.Terms.{tree_at}
use Rattle.eo_session.specs.Store.{state_of}
use Rattle.eo_session.specs.Step.{evaluated}
use Rattle.eo_session.specs.Stepping.{of_rule, GivesTerm}
use Rattle.eo_session.specs.declared.refused.Refused.{Refused}
use Rattle.eo_base.proofs.Answering.{at_exit}
use Rattle.eo_session.proofs.Faults.{present-ended, refuses_rule}
use Rattle.eo_session.proofs.Sessions.{evaluated-is}
use Rattle.eo_session.proofs.store.Store.evaluate.Goals as goal

pub returns-in_err-value-clause-gives : goal.returns-in_err-value-clause-gives
returns-in_err-value-clause-gives c =
    let st = state_of c.args.self.now in
    let t = tree_at c.args.self.now.table.trees c.args.id in
    let x = c.in_err-value.field-0.0 in
    at_exit (λ (r : Result ℕ Refused). GivesTerm c.value_of.new.self r (evaluated st t)) c.from_residual.result (of_rule x) c.from_residual.ensures.1
    (refuses_rule _ _ x (present-ended _) c.in_err-value.ensures.gives (λ name h. evaluated-is st t _ refl ∙ h))

pub returns-clause-gives : goal.returns-clause-gives
returns-clause-gives c =
    let h = c.args.self.now in
    let found = c.in_ok-value.ensures.gives in
    record { live = found.live; is = evaluated-is (state_of h) (tree_at h.table.trees c.args.id) _ refl ∙ found.is }
