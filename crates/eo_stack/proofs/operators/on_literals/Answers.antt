use Rattle.eo_term.specs.Growth.{trees_in}
use Rattle.eo_ops.specs.Operators.{tree_op_value}
use Rattle.eo_type.specs.Types.{typed_answer}
use Rattle.eo_stack.proofs.operators.on_literals.Goals as goal

pub returns : goal.returns
returns c =
    let o = typed_answer (tree_op_value c.args.op (trees_in c.args.table.now c.args.args.now)) in
    let found = c.operator_value-found.ensures in
    record { outcome = c.type_outcome.ensures o found.answers; grows = found.grows }
