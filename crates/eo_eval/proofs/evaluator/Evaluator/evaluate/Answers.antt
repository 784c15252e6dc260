use Rattle.std.proofs.Common.{◌∙◌, sym}
use Rattle.eo_eval.proofs.Itself.{value_ends}
use Rattle.eo_stack.proofs.Unchanged.{extends_same}
use Rattle.eo_eval.proofs.evaluator.Evaluator.evaluate.Goals as goal

pub returns-then-is_value-clause-gives : goal.returns-then-is_value-clause-gives
returns-then-is_value-clause-gives c =
    let t = c.args.table.now in
    let i = c.args.id in
    value_ends c.args.sig.now t i c.requires.live (sym c.is_value.ensures.value ∙ c.if-is_value.true) (c.is_value.ensures.low i c.requires.live)

pub undo-requires : goal.undo-requires
undo-requires c = c.evaluate_or_leave.ensures.extends.grows.table.now.marks c.mark-mark.result c.mark-mark.ensures.holds

pub returns-then-is_value-clause-extends : goal.returns-then-is_value-clause-extends
returns-then-is_value-clause-extends c = extends_same c.requires.fit

pub returns-in-Err-clause-refused : goal.returns-in-Err-clause-refused
returns-in-Err-clause-refused c = (c.undo.ensures.undone c.args.sig.now c.args.table.now c.args.types.now c.requires.fit c.evaluate_or_leave.ensures.extends c.mark-mark.ensures.mark).same

pub returns-in-Err-clause-extends : goal.returns-in-Err-clause-extends
returns-in-Err-clause-extends c = (c.undo.ensures.undone c.args.sig.now c.args.table.now c.args.types.now c.requires.fit c.evaluate_or_leave.ensures.extends c.mark-mark.ensures.mark).extends
