use Rattle.std.proofs.Common.{ap, ◌∙◌, bit_xor}
use Rattle.eo_ops.specs.Operators.{Gives}
use Rattle.eo_ops.proofs.Bits.{bit_by_bit_xor}
use Rattle.eo_ops.proofs.Answered.{answered_bits, of_same_width}
use Rattle.eo_ops.proofs.logic.xor_bits.Goals as goal

pub returns : goal.returns
returns c =
    answered_bits c.bits.result c.args.width (bit_xor c.args.a c.args.b) _ c.bits.ensures c.requires
    (of_same_width c.args.width _ ∙ ap Gives (bit_by_bit_xor c.args.width c.args.a c.args.b))
