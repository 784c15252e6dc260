use Rattle.eo_sig.proofs.Same.{below_more, rule_grown, rule_more, stays_grown}
use Rattle.eo_sig.proofs.laws.growth_law.Goals as goal

pub returns-clause-stays : goal.returns-clause-stays
returns-clause-stays c = stays_grown

pub returns-clause-below : goal.returns-clause-below
returns-clause-below c = below_more

pub returns-clause-rule : goal.returns-clause-rule
returns-clause-rule c = rule_grown

pub returns-clause-rule_below : goal.returns-clause-rule_below
returns-clause-rule_below c = λ n m d l. rule_more n m l d
