use Rattle.eo_type.proofs.SettleSteps.{settled_typed}
use Rattle.eo_type.proofs.laws.settled_law.Goals as goal

pub returns : goal.returns
returns c = settled_typed
