use Rattle.std.proofs.Common.{ap, ◌∙◌, bit_or}
use Rattle.eo_ops.specs.Operators.{Gives}
use Rattle.eo_ops.proofs.Bits.{bit_by_bit_or}
use Rattle.eo_ops.proofs.Answered.{answered_bits, of_same_width}
use Rattle.eo_ops.proofs.logic.or_bits.Goals as goal

pub returns : goal.returns
returns c =
    answered_bits c.bits.result c.args.width (bit_or c.args.a c.args.b) _ c.bits.ensures c.requires
    (of_same_width c.args.width _ ∙ ap Gives (bit_by_bit_or c.args.width c.args.a c.args.b))
