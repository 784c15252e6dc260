use Rattle.std.proofs.Common.{◌≡◌, ap, arith, ◌^◌, ◌-◌}
use Rattle.eo_ops.specs.Operators.{Gives}
use Rattle.eo_ops.proofs.Bits.{complement_bits}
use Rattle.eo_ops.proofs.Answered.{answered_bits}
use Rattle.eo_ops.proofs.logic.not_bits.Goals as goal

pub returns : goal.returns
returns c =
    let width = c.args.width in
    let value = c.args.value in
    let rest : c.low_ones.result - value ≡ 2 ^ width - 1 - value = omega arith in
    answered_bits c.bits.result width (2 ^ width - 1 - value) _ (rw rest at c.bits.ensures) c.requires.0 (ap Gives (complement_bits width value c.requires.1))
