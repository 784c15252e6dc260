use Rattle.bench_eval.proofs.World.program.Goals as goal

pub invariant_of-self-2 : goal.invariant_of-self-2
invariant_of-self-2 c = (c.in-Ok.ensures.below _ c.self.invariant.0 c.in_ok-d.ensures.below, c.in-Ok.ensures.usable _ c.self.invariant.1)
