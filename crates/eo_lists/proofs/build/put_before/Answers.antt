use Rattle.eo_term.proofs.Growing.{grows_on}
use Rattle.eo_lists.proofs.build.put_before.Goals as goal

pub returns-clause-grows : goal.returns-clause-grows
returns-clause-grows c = grows_on _ _ _ c.apply.ensures.grows c.apply-2.ensures.grows
