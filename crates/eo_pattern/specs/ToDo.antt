-- The tasks of a search for a match, the next one first, and how many there is room for.
use Rattle.std.specs.Prelude.{ℕ, List}
use Rattle.eo_pattern.specs.declared.tasks.Task.{Task}

pub record ToDo : Type 0 where
  pub tasks : List Task
  pub room : ℕ
