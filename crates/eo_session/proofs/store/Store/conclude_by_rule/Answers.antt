use Rattle.std.proofs.Common.{ap, sym, ◌∙◌, option_map, subst, length, ◌<◌}
use Rattle.std.specs.Prelude.{Result}
use Rattle.eo_rule.specs.Reading.{read_use}
use Rattle.eo_shape.specs.Reading.{read_step}
use Rattle.eo_sig.specs.Reading.{Kept, rules_of}
use Rattle.eo_term.specs.Growth.{tree_in}
use Rattle.eo_session.specs.Store.{state_of}
use Rattle.eo_session.specs.State.{State}
use Rattle.eo_session.specs.Step.{concluded_by}
use Rattle.eo_session.specs.Using.{GivesConcluded, concluded_from}
use Rattle.eo_session.specs.declared.refused.Refused.{Refused}
use Rattle.eo_session.specs.declared.steps.Conclusion.{Conclusion}
use Rattle.eo_session.proofs.Concluding.{concluded-fault, concluded-use}
use Rattle.eo_base.proofs.Answering.{at_exit}
use Rattle.eo_session.proofs.Sessions.{refuses_on}
use Rattle.eo_session.proofs.Used.{concluded-same, keeps_on}
use Rattle.eo_session.proofs.store.Store.conclude_by_rule.Goals as goal

pub returns-in_err-given-clause-gives : goal.returns-in_err-given-clause-gives
returns-in_err-given-clause-gives c =
    let h = c.args.self.now in
    let st = state_of h in
    let a = option_map (tree_in h.table) c.args.assumed in
    let s = read_step c.args.shape.now in
    let x = c.in_err-given.field-0.0 in
    at_exit (λ (r : Result Conclusion Refused). GivesConcluded c.use_of.new.self r (concluded_by st c.args.rule a s)) c.from_residual.result x c.from_residual.ensures.1
    (refuses_on _ _ x c.in_err-given.ensures.gives (concluded-fault st a s c.args.rule))

pub apply_rule-requires-clause-rule : goal.apply_rule-requires-clause-rule
apply_rule-requires-clause-rule c = subst (λ (k : Kept). c.args.rule < length (rules_of k)) (sym c.in_ok-given.ensures.keeps.signature) c.requires.rule

pub returns-clause-gives : goal.returns-clause-gives
returns-clause-gives c =
    let h = c.args.self.now in
    let st = state_of h in
    let a = option_map (tree_in h.table) c.args.assumed in
    let s = read_step c.args.shape.now in
    let given = read_use c.use_of.new.self.table.trees c.in_ok-given.given in
    concluded-same c.apply_rule.new.self c.apply_rule.result _ _
    (concluded-use st a s c.args.rule given c.in_ok-given.ensures.gives.is ∙ ap (λ (z : State). concluded_from z c.args.rule given) (sym c.in_ok-given.ensures.keeps.same))
    c.apply_rule.ensures.gives

pub returns-in_err-given-clause-keeps : goal.returns-in_err-given-clause-keeps
returns-in_err-given-clause-keeps c = c.in_err-given.ensures.keeps

pub returns-clause-keeps : goal.returns-clause-keeps
returns-clause-keeps c = keeps_on c.args.self.now c.use_of.new.self c.apply_rule.new.self c.in_ok-given.ensures.keeps c.apply_rule.ensures.keeps
