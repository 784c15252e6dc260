use Rattle.eo_term.proofs.Growing.{grows_refl, grows_on}
use Rattle.eo_term.proofs.laws.table_law.Goals as goal

pub returns-clause-same : goal.returns-clause-same
returns-clause-same c = grows_refl

pub returns-clause-later : goal.returns-clause-later
returns-clause-later c = grows_on
