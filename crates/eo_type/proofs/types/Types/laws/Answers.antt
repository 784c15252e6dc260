use Rattle.eo_type.proofs.Fitting.{lasts}
use Rattle.eo_type.proofs.types.Types.laws.Goals as goal

pub returns : goal.returns
returns c = lasts c.growth_law.ensures.stays c.longer_law.ensures c.args.self.now
