-- What is read, against the values of literals.
use Rattle.std.specs.Prelude.{ℕ, ◌+◌, ◌*◌, ◌^◌, ◌<◌, ◌≤◌, Option, Some, None, option_and_then, option_map, nat_lt, if◌then◌else◌}
use Rattle.eo_lit.specs.declared.LitRead.{LitRead}
use Rattle.eo_lit.specs.declared.LitRead.TheVariants.{Num, Bits}
use Rattle.eo_lit.specs.Literals.{Literal, Number, BitString, digit_below}

-- the literal that was read
abbrev pub lit : LitRead → Literal
lit (Num z) = Number z
lit (Bits width value) = BitString width value

-- the value has so many bits
abbrev pub FitsWidth : (width value : ℕ) → Type 0
FitsWidth width value = (1 ≤ width) × (width ≤ 128) × (value < 2 ^ width)

-- a number, or a bit string of 1 to 128 bits
abbrev pub IsLiteral : LitRead → Type 0
IsLiteral (Num z) = Unit {0}
IsLiteral (Bits width value) = FitsWidth width value

-- the number, where it has at most 128 bits
abbrev pub in_128_bits : Option ℕ → Option ℕ
in_128_bits o = option_and_then (λ n. if nat_lt n (2 ^ 128) then Some n else None) o

-- the value of digits of this value and of one digit more, where it has at most 128 bits
abbrev pub next_value : (base n b : ℕ) → Option ℕ
next_value base n b = in_128_bits (option_map (λ d. n * base + d) (digit_below base b))

-- a number, or a bit string of some bits
abbrev pub HasBits : LitRead → Type 0
HasBits (Num z) = Unit {0}
HasBits (Bits width value) = 1 ≤ width
