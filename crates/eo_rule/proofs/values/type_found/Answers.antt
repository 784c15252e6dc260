use Rattle.std.proofs.Common.{sym, ◌∙◌}
use Rattle.eo_sig.specs.Reading.{signature}
use Rattle.eo_term.specs.Terms.{tree_at}
use Rattle.eo_rule.specs.Answers.{of_type}
use Rattle.eo_rule.specs.Uses.{typed}
use Rattle.eo_rule.proofs.Steps.{term_fails, itself, kind_none, kind_some, typed-none, typed-refused, typed-open, typed-ok}
use Rattle.eo_rule.proofs.values.type_found.Goals as goal

pub returns-in_err-ty-clause-gives : goal.returns-in_err-ty-clause-gives
returns-in_err-ty-clause-gives c =
    let S = signature c.args.table.now.trees c.args.sig.now in
    let v = tree_at c.args.table.now.trees c.args.id in
    let x = c.in_err-ty.field-0.0 in
    term_fails c.type_of.new.table _ (typed S v) (of_type x) (typed S v) c.from_residual.ensures.1 (itself _) (typed-refused S v c.type_of.new.table x c.in_err-ty.ensures.answers)

pub returns-in_default-clause-gives : goal.returns-in_default-clause-gives
returns-in_default-clause-gives c =
    let S = signature c.args.table.now.trees c.args.sig.now in
    let v = tree_at c.args.table.now.trees c.args.id in
    typed-none S v (kind_none c.type_of.new.table _ _ c.in_default.is c.in_ok-ty.ensures.answers)

pub returns-then-not-is_value-clause-gives : goal.returns-then-not-is_value-clause-gives
returns-then-not-is_value-clause-gives c =
    let S = signature c.args.table.now.trees c.args.sig.now in
    let v = tree_at c.args.table.now.trees c.args.id in
    let t = c.type_of.new.table in
    typed-open S v (tree_at t.trees c.in-Some.ty) (kind_some t _ _ c.in-Some.ty c.in-Some.is c.in_ok-ty.ensures.answers).1 (sym c.is_value.ensures.value ∙ c.if-not-is_value.true)

pub returns-clause-gives : goal.returns-clause-gives
returns-clause-gives c =
    let S = signature c.args.table.now.trees c.args.sig.now in
    let v = tree_at c.args.table.now.trees c.args.id in
    let t = c.type_of.new.table in
    let k = kind_some t _ _ c.in-Some.ty c.in-Some.is c.in_ok-ty.ensures.answers in
    record { live = k.0; is = typed-ok S v (tree_at t.trees c.in-Some.ty) k.1 (sym c.is_value.ensures.value ∙ c.if-not-is_value.false) }
