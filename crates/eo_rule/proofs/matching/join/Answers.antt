use Rattle.std.proofs.Common.{map}
use Rattle.eo_sig.specs.Reading.{signature}
use Rattle.eo_term.specs.Terms.{tree_at}
use Rattle.eo_rule.specs.Answers.{of_term}
use Rattle.eo_rule.specs.Uses.{joined}
use Rattle.eo_rule.proofs.Steps.{term_fails, itself, joined-none, joined-low, joined-refused, list_none, list_some}
use Rattle.eo_rule.proofs.matching.join.Goals as goal

pub returns-in_err-made-clause-gives : goal.returns-in_err-made-clause-gives
returns-in_err-made-clause-gives c =
    let t = c.args.table.now in
    let S = signature t.trees c.args.sig.now in
    let us = map (tree_at t.trees) c.args.premises.now in
    let x = c.in_err-made.field-0.0 in
    term_fails c.spell_list.new.table _ (joined S c.args.with us) (of_term x) (joined S c.args.with us) c.from_residual.ensures.1 (itself _) (joined-refused S c.args.with us c.spell_list.new.table x c.in_err-made.ensures.gives)

pub returns-in-Some-clause-gives : goal.returns-in-Some-clause-gives
returns-in-Some-clause-gives c =
    let v = list_some c.spell_list.new.table _ _ c.in-Some.list c.in-Some.is c.in_ok-made.ensures.gives in
    record { live = v.live; is = joined-low _ _ _ _ v.value (c.laws.ensures.low c.in-Some.list v.live) }

pub returns-in-None-clause-gives : goal.returns-in-None-clause-gives
returns-in-None-clause-gives c =
    joined-none _ _ _ (list_none c.spell_list.new.table _ _ c.in-None.is c.in_ok-made.ensures.gives)
