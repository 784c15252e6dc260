use Rattle.test_rule.proofs.tests.world.World.type_numerals.Goals as goal

pub invariant_of-self-2 : goal.invariant_of-self-2
invariant_of-self-2 c = (c.in_ok-set_literal_type.ensures.below _ c.self.invariant.0 c.in_ok-ty.ensures, c.in_ok-set_literal_type.ensures.usable _ c.self.invariant.1)
