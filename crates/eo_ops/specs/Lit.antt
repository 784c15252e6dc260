-- Arguments of operators as literals.
use Rattle.std.specs.Prelude.{ℕ, ◌^◌, ◌<◌, ◌≤◌}
use Rattle.eo_ops.specs.declared.Lit.{Lit}
use Rattle.eo_ops.specs.declared.Lit.TheVariants.{Bool as OfBool, Num as OfNum, Bits as OfBits, Str as OfStr}
use Rattle.eo_ops.specs.Operators.{Literal, Boolean, Number, BitString, Text}

abbrev pub lit : Lit → Literal
lit (OfBool b) = Boolean b
lit (OfNum z) = Number z
lit (OfBits width value) = BitString width value
lit (OfStr characters) = Text characters

-- the value of a bit string has no more bits than its width says, and that are at most 128
abbrev pub FitsWidth : (width value : ℕ) → Type 0
FitsWidth width value = (width ≤ 128) × (value < 2 ^ width)

abbrev pub IsWellFormed : Lit → Type 0
IsWellFormed (OfBits width value) = FitsWidth width value
IsWellFormed _ = Unit {0}

abbrev pub IsNoString : Lit → Type 0
IsNoString (OfStr characters) = ⊥
IsNoString _ = Unit {0}
