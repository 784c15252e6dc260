use Rattle.test_pattern.proofs.tests.world.match_and_put_in.Goals as goal

pub match_terms-requires-clause-below : goal.match_terms-requires-clause-below
match_terms-requires-clause-below c = c.reserve_for.ensures.below _ c.requires.subst
