-- Where a part of a list begins and ends.
use Rattle.std.specs.Prelude.{ℕ, suc, ◌-◌, ◌||◌, ℤ, pos, min, nat_le, nat_lt, if◌then◌else◌}

-- the places from the first to the last that a list of this length has, as the place where they begin and the place after them
abbrev pub place_range : (len : ℕ) (first last : ℤ) → ℕ × ℕ
place_range len (pos i) (pos j) = if nat_le len i || nat_lt j i then (0, 0) else (i, suc (min j (len - 1)))
place_range len _ _ = (0, 0)
