use Rattle.test_eval.proofs.tests.world.World.add_program.Goals as goal

pub invariant_of-self-2 : goal.invariant_of-self-2
invariant_of-self-2 c = (c.in_ok-add_program.ensures.below _ c.self.invariant.0 c.in_ok-d.ensures.below, c.in_ok-add_program.ensures.usable _ c.self.invariant.1)
