use Rattle.test_elab.proofs.tests.world.World.reference_meaning.Goals as goal

pub reference_meaning-meant-requires-clause-ready : goal.reference_meaning-meant-requires-clause-ready
reference_meaning-meant-requires-clause-ready c = record {
  below = (c.laws.ensures c.self.inside.table c.parameters.new.table c.self.invariant c.in_ok-locals.ensures.grows).stays.below;
  names = c.in_ok-locals.ensures.below;
}
