use Rattle.eo_term.proofs.ParamSets.{has_nothing}
use Rattle.eo_term.proofs.param_set.ParamSet.new.Goals as goal

pub returns : goal.returns
returns c = has_nothing
