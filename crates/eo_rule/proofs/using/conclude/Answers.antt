use Rattle.eo_rule.proofs.using.conclude.Goals as goal

pub undo-requires : goal.undo-requires
undo-requires c = c.conclude_or_leave.ensures.extends.grows.table.now.marks c.mark-mark.result c.mark-mark.ensures.holds

pub returns-in-Err-clause-refused : goal.returns-in-Err-clause-refused
returns-in-Err-clause-refused c = (c.undo.ensures.undone c.args.sig.now c.args.table.now c.args.types.now c.requires.serves.fit c.conclude_or_leave.ensures.extends c.mark-mark.ensures.mark).same

pub returns-in-Err-clause-extends : goal.returns-in-Err-clause-extends
returns-in-Err-clause-extends c = (c.undo.ensures.undone c.args.sig.now c.args.table.now c.args.types.now c.requires.serves.fit c.conclude_or_leave.ensures.extends c.mark-mark.ensures.mark).extends
