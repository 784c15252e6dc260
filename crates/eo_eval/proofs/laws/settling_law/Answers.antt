use Rattle.eo_eval.proofs.Settled.{settles_as_evaluated}
use Rattle.eo_eval.proofs.laws.settling_law.Goals as goal

pub returns : goal.returns
returns c = settles_as_evaluated
