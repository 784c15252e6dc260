use Rattle.std.proofs.Common.{arith, subst, sym}
use Rattle.eo_sig.specs.Reading.{IsBelow}
use Rattle.test_type.proofs.tests.world.World.declare.Goals as goal

pub declare-requires : goal.declare-requires
declare-requires c = record { live = c.in_ok-d.ensures.below _ c.in_ok-ty.ensures }

pub invariant_of-self : goal.invariant_of-self
invariant_of-self c = λ n l. subst (IsBelow n) (sym c.in_err-declare.ensures.err) (c.self.invariant n l)

pub invariant_of-self-2 : goal.invariant_of-self-2
invariant_of-self-2 c = λ n l. c.in_ok-declare.ensures.below n (c.self.invariant n l) (c.in_ok-d.ensures.below n (omega (arith, c.in_ok-ty.ensures)))
