use Rattle.std.proofs.Common.{◌∙◌, sym}
use Rattle.eo_eval.proofs.Entered.{entered_closed, entered_outside}
use Rattle.eo_eval.proofs.machine.Machine.is_itself.Goals as goal

pub returns-then-here-eq0 : goal.returns-then-here-eq0
returns-then-here-eq0 c = λ S b h is. entered_outside c.args.table.now.trees c.args.self.now.scope S b h c.args.id (sym c.here.ensures ∙ c.if-here-eq0.true)

pub returns : goal.returns
returns c = λ S b h is. entered_closed c.args.table.now.trees c.args.self.now.scope c.args.id (sym c.is_closed.ensures.closed ∙ is)
