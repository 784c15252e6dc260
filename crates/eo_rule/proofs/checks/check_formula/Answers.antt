use Rattle.std.proofs.Common.{sym, ◌∙◌}
use Rattle.eo_sig.specs.Reading.{signature}
use Rattle.eo_term.specs.Terms.{tree_at}
use Rattle.eo_rule.specs.Uses.{typed, check_formula}
use Rattle.eo_rule.proofs.Steps.{check_fails, formula-fails, formula-tested, require-fails, require-passes}
use Rattle.eo_rule.proofs.checks.check_formula.Goals as goal

pub returns-in_err-ty-clause-passes : goal.returns-in_err-ty-clause-passes
returns-in_err-ty-clause-passes c =
    let S = signature c.args.table.now.trees c.args.sig.now in
    let v = tree_at c.args.table.now.trees c.args.id in
    check_fails _ (check_formula S v) c.in_err-ty.field-0.0 (typed S v) c.from_residual.ensures.1 (formula-fails S v) c.in_err-ty.ensures.gives

pub returns-then-not-is_constant-clause-passes : goal.returns-then-not-is_constant-clause-passes
returns-then-not-is_constant-clause-passes c =
    let S = signature c.args.table.now.trees c.args.sig.now in
    let v = tree_at c.args.table.now.trees c.args.id in
    formula-tested S v _ _ c.in_ok-ty.ensures.gives.is (sym c.is_constant.ensures) ∙ require-fails _ _ c.if-not-is_constant.true

pub returns-clause-passes : goal.returns-clause-passes
returns-clause-passes c =
    let S = signature c.args.table.now.trees c.args.sig.now in
    let v = tree_at c.args.table.now.trees c.args.id in
    record { live = tt; is = formula-tested S v _ _ c.in_ok-ty.ensures.gives.is (sym c.is_constant.ensures) ∙ require-passes _ _ c.if-not-is_constant.false }
