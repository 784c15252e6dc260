use Rattle.std.proofs.Common.{◌<◌, ◌≤◌, [], length, arith, ap, sym, subst, ◌∙◌}
use Rattle.std.proofs.lemmas.Result.{IfOk-weaker}
use Rattle.eo_base.specs.declared.FaultName.TheVariants.{Redeclared}
use Rattle.eo_base.specs.Limits.{parameters_limit}
use Rattle.eo_base.proofs.Answering.{fails}
use Rattle.eo_term.proofs.Growing.{grows_refl, grows_on}
use Rattle.eo_declare.specs.Declarations.{declared_rule, rule_over}
use Rattle.eo_shape.specs.Reading.{read_rule}
use Rattle.eo_sig.specs.Reading.{signature}
use Rattle.eo_sig.specs.Signature.{is_free_rule}
use Rattle.eo_declare.specs.Declaring.{read_bound}
use Rattle.eo_declare.specs.Gives.{GivesRule}
use Rattle.eo_elab.specs.Worlds.{context_in}
use Rattle.eo_declare.proofs.CheckedLemmas.{require-no}
use Rattle.eo_declare.proofs.Giving.{same_context}
use Rattle.eo_declare.proofs.RuleLemmas.{rule-many, rule-unbound, rule-bound}
use Rattle.eo_declare.proofs.rules.rule.Goals as goal

pub returns-then-not-is_free_rule-clause-gives : goal.returns-then-not-is_free_rule-clause-gives
unfolding declared_rule
returns-then-not-is_free_rule-clause-gives c = require-no _ Redeclared _ (sym (c.is_free_rule.ensures c.args.table.now.trees) ∙ c.if-not-is_free_rule.true)

pub returns-then-len-gt-PARAMETERS-clause-gives : goal.returns-then-len-gt-PARAMETERS-clause-gives
returns-then-len-gt-PARAMETERS-clause-gives c =
    let t = c.args.table.now in
    let many : parameters_limit < length c.args.shape.now.params = omega (arith, c.len.ensures, c.if-len-gt-PARAMETERS.true) in
    rule-many (context_in t c.args.sig.now) (read_rule c.args.shape.now) (sym (c.is_free_rule.ensures t.trees) ∙ c.if-not-is_free_rule.false) many

pub returns-in_err-bound-clause-gives : goal.returns-in_err-bound-clause-gives
returns-in_err-bound-clause-gives c =
    let t = c.args.table.now in
    let few : length c.args.shape.now.params ≤ parameters_limit = omega (arith, c.len.ensures, c.if-len-gt-PARAMETERS.false) in
    fails _ _ _ _ _ _ _ c.from_residual.ensures.1
    (rule-unbound (context_in t c.args.sig.now) (read_rule c.args.shape.now) (sym (c.is_free_rule.ensures t.trees) ∙ c.if-not-is_free_rule.false) few) c.in_err-bound.ensures.gives

pub returns-clause-gives : goal.returns-clause-gives
returns-clause-gives c =
    let t = c.args.table.now in
    let us = c.bind.new.table in
    let x = context_in t c.args.sig.now in
    let few : length c.args.shape.now.params ≤ parameters_limit = omega (arith, c.len.ensures, c.if-len-gt-PARAMETERS.false) in
    let b = read_bound us.trees c.in_ok-bound.bound in
    let same = same_context c.args.sig.now t us c.laws.ensures c.requires c.in_ok-bound.ensures.grows in
    let parts = rule-bound x (read_rule c.args.shape.now) (sym (c.is_free_rule.ensures t.trees) ∙ c.if-not-is_free_rule.false) few b c.in_ok-bound.ensures.gives.is in
    subst (GivesRule c.rule_over.new.table c.rule_over.result) (sym (parts ∙ ap (λ y. rule_over y b (read_rule c.args.shape.now)) (sym same))) c.rule_over.ensures.gives

pub returns-clause-free : goal.returns-clause-free
returns-clause-free c =
    IfOk-weaker c.rule_over.result _ _ (λ d e. ap (is_free_rule (signature [] c.args.sig.now)) e ∙ sym (c.is_free_rule.ensures []) ∙ c.if-not-is_free_rule.false) c.rule_over.ensures.name

pub returns-then-not-is_free_rule-clause-grows : goal.returns-then-not-is_free_rule-clause-grows
returns-then-not-is_free_rule-clause-grows c = c.laws.ensures c.args.table.now c.args.table.now c.requires (grows_refl c.args.table.now)

pub returns-then-len-gt-PARAMETERS-clause-grows : goal.returns-then-len-gt-PARAMETERS-clause-grows
returns-then-len-gt-PARAMETERS-clause-grows c = c.laws.ensures c.args.table.now c.args.table.now c.requires (grows_refl c.args.table.now)

pub returns-in_err-bound-clause-grows : goal.returns-in_err-bound-clause-grows
returns-in_err-bound-clause-grows c = c.laws.ensures c.args.table.now c.bind.new.table c.requires c.in_err-bound.ensures.grows

pub returns-clause-grows : goal.returns-clause-grows
returns-clause-grows c =
    c.laws.ensures c.args.table.now c.rule_over.new.table c.requires (grows_on c.args.table.now c.bind.new.table c.rule_over.new.table c.in_ok-bound.ensures.grows c.rule_over.ensures.grows)
