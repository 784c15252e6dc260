use Rattle.std.proofs.Common.{◌≡◌, [], ◌∷◌}
use Rattle.eo_io.specs.Library.{Rest}
use Rattle.test_io.proofs.tests.read_rest.Given as goal

abbrev pub invariant-loop : goal.invariant-loop
invariant-loop g l = (rest : Rest) × (g.L.Library.open_files l.library ≡ rest ∷ [])
