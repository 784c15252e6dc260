use Rattle.std.proofs.Common.{◌∙◌, sym}
use Rattle.eo_eval.proofs.Entered.{entered_value, slot_values, slot_low}
use Rattle.eo_eval.proofs.machine.Machine.ready.Goals as goal

pub returns-then-is_value-clause-tree : goal.returns-then-is_value-clause-tree
returns-then-is_value-clause-tree c = entered_value c.args.table.now.trees c.args.self.now.scope c.args.id (sym c.is_value.ensures.value ∙ c.if-is_value.true)

pub returns-in-Par-clause-value : goal.returns-in-Par-clause-value
returns-in-Par-clause-value c = slot_values c.args.table.now.trees c.args.self.now.scope c.in-Par.i c.slot.result c.requires.slots c.slot.ensures

pub returns-in-Par-clause-low : goal.returns-in-Par-clause-low
returns-in-Par-clause-low c =
    slot_low c.args.table.now.trees c.slot.result c.is_value.ensures.low (slot_values c.args.table.now.trees c.args.self.now.scope c.in-Par.i c.slot.result c.requires.slots c.slot.ensures)
