use Rattle.std.proofs.Common.{length}
use Rattle.test_elab.proofs.tests.world.add_program.Goals as goal

pub returns-in-Ok : goal.returns-in-Ok
returns-in-Ok c = record { ready = c.in-Ok.ensures.below (length c.args.table.now.trees) c.requires.ready c.requires.below }
