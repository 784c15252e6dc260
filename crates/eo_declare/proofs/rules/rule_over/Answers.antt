use Rattle.std.proofs.Common.{length, sym, subst, ◌∙◌}
use Rattle.eo_base.proofs.Answering.{fails}
use Rattle.eo_shape.specs.Reading.{read_rule}
use Rattle.eo_declare.specs.Declaring.{read_bound}
use Rattle.eo_declare.specs.Gives.{GivesRule}
use Rattle.eo_declare.specs.RuleParts.{read_parts, rule_of_parts}
use Rattle.eo_elab.specs.Worlds.{context_in}
use Rattle.eo_declare.proofs.BoundLemmas.{parameters-grown, parameters-more}
use Rattle.eo_declare.proofs.RuleLemmas.{over-no-parts, over-parts}
use Rattle.eo_declare.proofs.rules.rule_over.Goals as goal

pub returns-in_err-parts-clause-gives : goal.returns-in_err-parts-clause-gives
returns-in_err-parts-clause-gives c =
    let t = c.args.table.now in
    fails _ _ _ _ _ _ _ c.from_residual.ensures.1 (over-no-parts (context_in t c.args.sig.now) (read_bound t.trees c.args.bound) (read_rule c.args.shape.now)) c.in_err-parts.ensures.gives

pub rule_of_parts-requires-clause-params : goal.rule_of_parts-requires-clause-params
rule_of_parts-requires-clause-params c =
    let t = c.args.table.now in
    let us = c.rule_parts.new.table in
    parameters-more (length t.trees) (length us.trees) c.args.bound.params c.in_ok-parts.ensures.grows.now.more_trees c.requires.bound.params

pub returns-clause-gives : goal.returns-clause-gives
returns-clause-gives c =
    let t = c.args.table.now in
    let us = c.rule_parts.new.table in
    let k = c.args.sig.now in
    let s = read_rule c.args.shape.now in
    let b = read_bound t.trees c.args.bound in
    let same = (c.names_law.ensures.stays k c.args.bound.locals t us c.requires.bound.ready c.in_ok-parts.ensures.grows).world in
    let params = parameters-grown (length t.trees) t.trees us.trees c.args.bound.params c.in_ok-parts.ensures.grows.now.tree c.requires.bound.params in
    let r = read_parts us.trees c.in_ok-parts.parts in
    subst (GivesRule us c.rule_of_parts.result)
    (sym (over-parts (context_in t k) b s r c.in_ok-parts.ensures.gives.is ∙ (λ i. rule_of_parts (sym same i).names.signature (sym params i) s r)))
    c.rule_of_parts.ensures.gives

pub rule_parts-requires : goal.rule_parts-requires
rule_parts-requires c = record { ready = c.requires.bound.ready }
