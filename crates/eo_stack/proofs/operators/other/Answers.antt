use Rattle.std.proofs.Common.{sym, ap, subst}
use Rattle.std.specs.Prelude.{IfOk}
use Rattle.eo_term.specs.Growth.{trees_in}
use Rattle.eo_sig.specs.Reading.{signature}
use Rattle.eo_stack.specs.Machine.{low_outcome}
use Rattle.eo_stack.specs.Reading.{IsOutcome}
use Rattle.eo_stack.proofs.OnValues.{literal_operator}
use Rattle.eo_stack.proofs.operators.other.Goals as goal

pub returns-else-is_on_lists-clause-outcome : goal.returns-else-is_on_lists-clause-outcome
returns-else-is_on_lists-clause-outcome c =
    let S = signature c.args.table.now.trees c.args.sig.now in
    let vs = trees_in c.args.table.now c.args.args.now in
    subst (λ o. IfOk c.on_literals.result (IsOutcome c.on_literals.new.table o))
    (ap low_outcome (sym (literal_operator S c.args.op vs (c.is_on_lists.ensures.others c.if-is_on_lists.false)))) c.on_literals.ensures.outcome
