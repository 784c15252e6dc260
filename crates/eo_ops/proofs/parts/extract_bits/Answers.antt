use Rattle.std.proofs.Common.{◌-◌, ◌/◌, ◌^◌, ap, arith}
use Rattle.std.proofs.lemmas.Int.{to_z-of_z}
use Rattle.std.specs.Int.{w128}
use Rattle.std.specs.Prelude.{FitsSigned}
use Rattle.eo_ops.specs.Operators.{Gives}
use Rattle.eo_ops.proofs.Places.{part_bits}
use Rattle.eo_ops.proofs.Answered.{answered_bits}
use Rattle.eo_ops.proofs.parts.extract_bits.Goals as goal

pub returns-clause-value : goal.returns-clause-value
returns-clause-value c =
    let low_fits : FitsSigned w128 c.args.low = c.ranges.low in
    let high_fits : FitsSigned w128 c.args.high = c.ranges.high in
    let range = simp (to_z-of_z, c.from.ensures) at c.places-start.ensures.value in
    let start = c.places-start.result.0 in
    let end = c.places-start.result.1 in
    answered_bits c.bits.result (end - start) (c.args.value / 2 ^ start) _ c.bits.ensures (omega arith)
    (ap Gives (part_bits c.args.width c.args.value c.args.low c.args.high start end range (omega arith) (omega arith)))
