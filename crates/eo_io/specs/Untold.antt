-- A library of whose files nothing is known.
use Rattle.std.specs.Prelude.{ℕ}

pub record Untold : Type 0 where
  -- how many files are open
  pub opened : ℕ
  pub faults : ℕ
