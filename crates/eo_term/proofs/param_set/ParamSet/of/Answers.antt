use Rattle.eo_term.proofs.ParamSets.{has_one}
use Rattle.eo_term.proofs.param_set.ParamSet.of.Goals as goal

pub returns : goal.returns
returns c = λ i. has_one c.args.par i c.requires
