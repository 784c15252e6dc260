-- Numbers in three bytes.
use Rattle.std.specs.Prelude.{ℕ, ◌+◌, ◌*◌}
use Rattle.eo_sexp.specs.declared.count.Count.{Count}

-- the number of these bytes
abbrev pub count_of : Count → ℕ
count_of c = (c.high * 256 + c.middle) * 256 + c.low
