use Rattle.test_rule.proofs.tests.world.World.declare.Goals as goal

pub invariant_of-self-2 : goal.invariant_of-self-2
invariant_of-self-2 c = (c.in_ok-declare.ensures.below _ c.self.invariant.0 c.in_ok-d.ensures.below, c.in_ok-declare.ensures.usable c.self.invariant.1)
