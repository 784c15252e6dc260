use Rattle.eo_stack.proofs.Unchanged.{extends_same}
use Rattle.eo_eval.proofs.machine.Machine.give.Goals as goal

pub returns-in-None-clause-extends : goal.returns-in-None-clause-extends
returns-in-None-clause-extends c = extends_same c.requires.ready.held.fit
