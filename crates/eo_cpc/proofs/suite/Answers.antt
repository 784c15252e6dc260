use Rattle.std.proofs.Common.{refl}
use Rattle.eo_cpc.specs.Suite.{suite}
use Rattle.eo_cpc.proofs.suite.Goals as goal

pub returns : goal.returns
unfolding suite
returns c = refl
