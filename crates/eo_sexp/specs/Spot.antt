-- A place in a file.
use Rattle.std.specs.Prelude.{ℕ}

-- A byte of a file: its line, from 1, and how many bytes come before it.
pub record Spot : Type 0 where
  pub line : ℕ
  pub offset : ℕ
