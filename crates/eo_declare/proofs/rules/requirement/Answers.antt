use Rattle.eo_declare.proofs.rules.requirement.Goals as goal

pub returns-clause-gives : goal.returns-clause-gives
returns-clause-gives c = c.two_terms.ensures.gives
