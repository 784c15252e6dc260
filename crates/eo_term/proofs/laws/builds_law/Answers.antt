use Rattle.eo_term.proofs.Building.{taller, tall_where, builds_refused, builds_all_refused, builds_interned}
use Rattle.eo_term.proofs.laws.builds_law.Goals as goal

pub returns-clause-term : goal.returns-clause-term
returns-clause-term c = builds_refused

pub returns-clause-terms : goal.returns-clause-terms
returns-clause-terms c = builds_all_refused

pub returns-clause-taller : goal.returns-clause-taller
returns-clause-taller c = taller

pub returns-clause-tall : goal.returns-clause-tall
returns-clause-tall c = tall_where

pub returns-clause-interned : goal.returns-clause-interned
returns-clause-interned c = builds_interned
