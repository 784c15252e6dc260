use Rattle.test_pattern.proofs.tests.world.match_twice_in.Goals as goal

pub match_terms-matches-requires-clause-below : goal.match_terms-matches-requires-clause-below
match_terms-matches-requires-clause-below c = c.reserve_for.ensures.below _ c.requires.subst
