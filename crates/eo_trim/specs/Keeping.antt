-- How entries are kept.
use Rattle.std.specs.Prelude.{ℕ, ◌≤◌}
use Rattle.eo_trim.specs.declared.entries.Item.{Item}
use Rattle.eo_trim.specs.declared.entries.Span.{Span}

-- it lies in a buffer of this length
pub record IsInside (n : ℕ) (s : Span) : Type 0 where
  pub order : s.start ≤ s.end
  pub within : s.end ≤ n

pub record IsItem (premises bytes : ℕ) (i : Item) : Type 0 where
  pub premises_in : IsInside premises i.premises
  pub bytes_in : IsInside bytes i.bytes
