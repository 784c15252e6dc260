use Rattle.std.proofs.Common.{◌≡◌, ◌<◌, ◌^◌, drop}
use Rattle.eo_lit.specs.Literals.{with_digits}
use Rattle.eo_lit.specs.Reading.{in_128_bits}
use Rattle.eo_lit.proofs.decimal.number_in.Given as goal

abbrev pub invariant-loop-digit : goal.invariant-loop-digit
invariant-loop-digit l =
    (l.value < 2 ^ 128) × (in_128_bits (with_digits l.base l.value (drop l.digit-index l.digits)) ≡ in_128_bits (with_digits l.base 0 l.digits))
