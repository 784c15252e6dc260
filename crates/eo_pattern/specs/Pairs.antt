-- The terms that patterns became in a search, by the places of the patterns: each with the round in which it was made, the present round, and whether what comes is kept.
use Rattle.std.specs.Prelude.{ℕ, Bool, List}
use Rattle.eo_pattern.specs.declared.matched.Entry.{Entry}

pub record Remembered : Type 0 where
  pub entries : List Entry
  pub round : ℕ
  pub used : Bool
