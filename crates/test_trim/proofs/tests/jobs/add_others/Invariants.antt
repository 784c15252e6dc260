use Rattle.std.proofs.Common.{◌≡◌}
use Rattle.test_trim.proofs.tests.jobs.add_others.Given as goal

abbrev pub invariant-loop-i : goal.invariant-loop-i
invariant-loop-i l = l.library.unread ≡ l.fn.library.unread
