use Rattle.eo_main.proofs.EndLemmas.{completes}
use Rattle.eo_main.proofs.program.completeness_law.Goals as goal

pub returns : goal.returns
returns c = completes
