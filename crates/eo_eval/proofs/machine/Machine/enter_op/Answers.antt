use Rattle.std.proofs.Common.{◌≡◌, subst}
use Rattle.eo_term.specs.Arguments.{arguments_of}
use Rattle.eo_term.specs.Growth.{tree_in}
use Rattle.eo_term.specs.Tree.{Op}
use Rattle.eo_stack.specs.Scopes.{standing}
use Rattle.eo_eval.proofs.Entered.{op_kind, whole_put_call}
use Rattle.eo_eval.proofs.machine.Machine.enter_op.Goals as goal

pub enter_parts-requires-clause-node : goal.enter_parts-requires-clause-node
enter_parts-requires-clause-node c =
    let t = tree_in c.args.table.now c.args.id in
    op_kind c.args.code (arguments_of t) t c.requires.operator

pub enter_parts-requires-clause-whole : goal.enter_parts-requires-clause-whole
enter_parts-requires-clause-whole c =
    let t = tree_in c.args.table.now c.args.id in
    whole_put_call (standing c.args.table.now.trees c.args.self.now.scope) _ (arguments_of t) t (subst (λ k. Op k (arguments_of t) ≡ t) c.in-Prog.is c.requires.operator)
