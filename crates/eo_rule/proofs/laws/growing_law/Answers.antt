use Rattle.eo_rule.proofs.Rules.{use_grown}
use Rattle.eo_rule.proofs.laws.growing_law.Goals as goal

pub returns-clause-rule : goal.returns-clause-rule
returns-clause-rule c = λ d old new h g. record { rule = c.growth_law.ensures.rule d old new h g; below = c.growth_law.ensures.rule_below _ _ d g.more_trees h }

pub returns-clause-given : goal.returns-clause-given
returns-clause-given c = use_grown
