use Rattle.eo_pattern.proofs.Match.{matching_matches, matches_matching, nothing_matches}
use Rattle.eo_pattern.proofs.laws.matching_law.Goals as goal

pub returns-clause-sound : goal.returns-clause-sound
returns-clause-sound c = λ before σ ps ts. matching_matches before ps ts σ

pub returns-clause-complete : goal.returns-clause-complete
returns-clause-complete c = λ before σ ps ts. matches_matching before ps ts σ

pub returns-clause-none : goal.returns-clause-none
returns-clause-none c = nothing_matches
