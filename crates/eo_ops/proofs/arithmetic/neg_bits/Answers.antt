use Rattle.std.proofs.Common.{sym, ap}
use Rattle.eo_ops.specs.Operators.{Gives, BitString}
use Rattle.eo_ops.proofs.Bits.{neg_bits}
use Rattle.eo_ops.proofs.Answered.{answered_bits}
use Rattle.eo_ops.proofs.arithmetic.neg_bits.Goals as goal

pub returns : goal.returns
returns c =
    let width = c.args.width in
    let negative = neg_bits width c.wrapping_neg.result c.args.value c.requires.0 c.requires.1 c.wrapping_neg.ensures in
    answered_bits c.bits.result width c.wrapping_neg.result _ c.bits.ensures c.requires.0 (ap (λ n. Gives (BitString width n)) (sym negative))
