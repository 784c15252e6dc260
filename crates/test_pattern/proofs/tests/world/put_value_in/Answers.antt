use Rattle.std.proofs.Common.{length}
use Rattle.test_pattern.proofs.tests.world.put_value_in.Goals as goal

pub substitute-requires-clause-below : goal.substitute-requires-clause-below
substitute-requires-clause-below c =
    let n = length c.args.table.now.trees in
    c.put.ensures.below n (c.in_ok-reserve.ensures.below n c.requires.subst) c.requires.value
