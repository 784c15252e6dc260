use Rattle.std.proofs.Common.{subst}
use Rattle.eo_term.specs.Terms.{tree_at}
use Rattle.eo_stack.specs.Evaluation.{Value}
use Rattle.eo_stack.specs.Reading.{IsKnown}
use Rattle.eo_eval.proofs.machine.memory.use_memo.Goals as goal

pub returns-else-deepest-left : goal.returns-else-deepest-left
returns-else-deepest-left c = λ ts b F h.
    let known = subst (IsKnown ts b F) c.in-Value.is h in
    (Value (tree_at ts c.in-Value.id), (c.in-Value.deepest, (known.1, c.if-deepest-left.false)))
