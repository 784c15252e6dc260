use Rattle.test_term.proofs.tests.world.release_in.Goals as goal

pub release-requires : goal.release-requires
release-requires c = c.in_ok-intern.ensures.grows.now.marks c.mark-mark.result (c.in_ok-text.ensures.grows.now.marks c.mark-mark.result c.mark-mark.ensures.holds)
