use Rattle.std.proofs.Common.{◌≡◌}
use Rattle.test_runs.proofs.add_others.Given as goal

abbrev pub invariant-loop-i : goal.invariant-loop-i
invariant-loop-i l = l.files.stored.unread ≡ l.fn.files.stored.unread
