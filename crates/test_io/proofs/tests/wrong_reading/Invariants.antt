use Rattle.std.proofs.Common.{◌≡◌, []}
use Rattle.test_io.proofs.tests.wrong_reading.Given as goal

abbrev pub invariant-loop-i : goal.invariant-loop-i
invariant-loop-i g l = g.L.Library.open_files l.library ≡ []
