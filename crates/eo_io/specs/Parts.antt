-- The parts of a path as the code keeps them, the last one last, and as the definition does.
use Rattle.std.specs.Prelude.{ℕ, List, map, reverse}
use Rattle.std.specs.Borrow.{Bor}

abbrev pub last_first : List (Bor (List ℕ)) → List (List ℕ)
last_first parts = reverse (map (λ (part : Bor (List ℕ)). part.now) parts)
