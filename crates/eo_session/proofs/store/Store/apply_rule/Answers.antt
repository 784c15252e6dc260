use Rattle.std.proofs.Common.{◌≡◌, sym, ap, ◌∙◌}
use Rattle.std.specs.Prelude.{Result, Ok, Some}
use Rattle.eo_rule.specs.Reading.{read_use}
use Rattle.eo_sig.specs.Reading.{Kept, read_rule, signature}
use Rattle.eo_sig.specs.Signature.{rule_at}
use Rattle.eo_term.specs.Growth.{tree_in}
use Rattle.eo_session.specs.Store.{state_of}
use Rattle.eo_session.specs.Stepping.{of_rule}
use Rattle.eo_session.specs.Using.{GivesConcluded, concluded_from}
use Rattle.eo_session.specs.declared.refused.Refused.{Refused}
use Rattle.eo_session.specs.declared.steps.Conclusion.{Conclusion}
use Rattle.eo_base.proofs.Answering.{at_exit}
use Rattle.eo_session.proofs.Concluding.{from-fault, from-ok, sorry-is}
use Rattle.eo_session.proofs.Faults.{present-conclusion, refuses_rule}
use Rattle.eo_session.proofs.store.Store.apply_rule.Goals as goal

pub returns-in_err-formula-clause-gives : goal.returns-in_err-formula-clause-gives
returns-in_err-formula-clause-gives c =
    let h = c.args.self.now in
    let st = state_of h in
    let n = c.args.rule in
    let given = read_use h.table.trees c.args.given.now in
    let x = c.in_err-formula.field-0.0 in
    at_exit (λ (r : Result Conclusion Refused). GivesConcluded c.conclusion.new.self r (concluded_from st n given)) c.from_residual.result (of_rule x) c.from_residual.ensures.1
    (refuses_rule _ _ x (present-conclusion st.signature n given) c.in_err-formula.ensures.gives (from-fault st n given))

pub returns-clause-gives : goal.returns-clause-gives
returns-clause-gives c =
    let h = c.args.self.now in
    let ts = h.table.trees in
    let st = state_of h in
    let n = c.args.rule in
    let given = read_use ts c.args.given.now in
    let f = tree_in c.conclusion.new.self.table c.in_ok-formula.formula in
    let d = c.rule_of.result.now in
    let at : rule_at st.signature n ≡ Some (read_rule ts d) = ap (λ (k : Kept). rule_at (signature ts k) n) (sym c.in_ok-formula.ensures.keeps.signature) ∙ c.rule_of.ensures.value ts in
    record {
      live = c.in_ok-formula.ensures.value;
      is = from-ok st n given f c.in_ok-formula.ensures.gives.is ∙ ap (λ b. Ok (record { formula = f; sorry = b })) (sorry-is st n given (read_rule ts d) at);
    }
