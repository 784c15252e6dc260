use Rattle.eo_term.proofs.Heights.{tall_argument}
use Rattle.eo_term.proofs.laws.height_law.Goals as goal

pub returns : goal.returns
returns c = tall_argument
