use Rattle.std.proofs.Common.{arith}
use Rattle.test_type.proofs.tests.world.World.set_class.Goals as goal

pub invariant_of-self-2 : goal.invariant_of-self-2
invariant_of-self-2 c = λ n l. c.in_ok-set_literal_type.ensures.below n (c.self.invariant n l) (omega (arith, c.in_ok-ty.ensures))
