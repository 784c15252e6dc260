use Rattle.std.proofs.Common.{sym, ◌∙◌, option_map}
use Rattle.eo_shape.specs.Reading.{read_step}
use Rattle.eo_term.specs.Growth.{tree_in}
use Rattle.eo_session.specs.Store.{state_of}
use Rattle.eo_session.proofs.Concluding.{concluded-unknown, concluded-named}
use Rattle.eo_session.proofs.Used.{concluded-same}
use Rattle.eo_session.proofs.store.Store.conclude_step.Goals as goal

pub returns-in-Some-clause-gives : goal.returns-in-Some-clause-gives
returns-in-Some-clause-gives c =
    let h = c.args.self.now in
    let a = option_map (tree_in h.table) c.args.assumed in
    concluded-same c.conclude_by_rule.new.self c.conclude_by_rule.result _ _
    (concluded-named (state_of h) a (read_step c.args.shape.now) c.in-Some.rule (sym (c.rule.ensures.named h.table.trees) ∙ c.in-Some.is)) c.conclude_by_rule.ensures.gives

pub returns-in-None-clause-gives : goal.returns-in-None-clause-gives
returns-in-None-clause-gives c =
    let h = c.args.self.now in
    let a = option_map (tree_in h.table) c.args.assumed in
    (concluded-unknown (state_of h) a (read_step c.args.shape.now) (sym (c.rule.ensures.named h.table.trees) ∙ c.in-None.is), λ q. absurd cc)
