use Rattle.eo_cert.proofs.InstanceFits.{instance_fits, instance_pairs}
use Rattle.eo_cert.proofs.Pairs.{match_pairs, pairs_match}
use Rattle.eo_cert.proofs.laws.pairs_law.Goals as goal

pub returns-clause-matching : goal.returns-clause-matching
returns-clause-matching c = match_pairs

pub returns-clause-matches : goal.returns-clause-matches
returns-clause-matches c = λ patterns trees σ qs is gives. pairs_match patterns trees σ is qs gives

pub returns-clause-instance : goal.returns-clause-instance
returns-clause-instance c = instance_pairs

pub returns-clause-fits : goal.returns-clause-fits
returns-clause-fits c = instance_fits
