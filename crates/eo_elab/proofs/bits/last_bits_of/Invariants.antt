use Rattle.std.proofs.Common.{◌≡◌, ◌<◌, ◌^◌, length}
use Rattle.eo_lit.specs.Literals.{with_digits}
use Rattle.eo_elab.proofs.BitLemmas.{last}
use Rattle.eo_elab.proofs.bits.last_bits_of.Given as goal

-- the digits that are left go on from the value so far
abbrev pub invariant-loop-digit : goal.invariant-loop-digit
invariant-loop-digit l = (l.value < 2 ^ 128) × (last (2 ^ 128) (with_digits 10 l.value l.rest) ≡ last (2 ^ 128) (with_digits 10 0 l.digits))

abbrev pub decreases-loop-digit : goal.decreases-loop-digit
decreases-loop-digit l = length l.rest
