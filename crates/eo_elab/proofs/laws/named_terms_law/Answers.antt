use Rattle.eo_elab.proofs.MeansUses.{named_terms_fit}
use Rattle.eo_elab.proofs.laws.named_terms_law.Goals as goal

pub returns-clause-named_terms : goal.returns-clause-named_terms
returns-clause-named_terms c = λ context s t named_terms fits e. (named_terms_fit context fits s t named_terms e).0

pub returns-clause-free : goal.returns-clause-free
returns-clause-free c = λ context s t named_terms fits e. (named_terms_fit context fits s t named_terms e).1
