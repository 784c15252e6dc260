-- Bit strings that are written by their value and width, as the program keeps them.
use Rattle.std.specs.Prelude.{ℕ, ◌<◌, ◌≤◌, ◌^◌, ◌&&◌, nat_le, if◌then◌else◌, Option, Some, None}
use Rattle.eo_term.specs.Tree.{Tree, Bits}
use Rattle.eo_elab.specs.declared.bits.BitString.{BitString}

abbrev pub read_bits : BitString → Tree
read_bits b = Bits b.width b.value

abbrev pub FitBits : BitString → Type 0
FitBits b = (b.width ≤ 128) × (b.value < 2 ^ b.width)

abbrev pub IsWidth : ℕ → Type 0
IsWidth w = (1 ≤ w) × (w ≤ 128)

-- a number of bits that a bit string may be written with
abbrev pub within_width : ℕ → Option ℕ
within_width w = if nat_le 1 w && nat_le w 128 then Some w else None
