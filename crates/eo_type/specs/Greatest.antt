-- Numbers beside the entries that are kept.
use Rattle.std.specs.Prelude.{◌≡◌, ℕ, ◌+◌, ◌<◌, ◌≤◌, List, length, take, slice_index_or, All}

-- no term of the entry has a greater number
pub record IsUpTo (n : ℕ) (e : ℕ × ℕ) : Type 0 where
  pub term : e.0 ≤ n
  pub type : e.1 ≤ n

-- a number beside each entry, which no term of it and of the entries before it exceeds
pub record AreGreatest (ns : List ℕ) (es : List (ℕ × ℕ)) : Type 0 where
  pub long : length ns ≡ length es
  pub upto : (i : ℕ) → i < length es → All (IsUpTo (slice_index_or ns i 0)) (take (i + 1) es)
