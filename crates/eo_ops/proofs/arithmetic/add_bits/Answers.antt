use Rattle.std.proofs.Common.{◌∙◌, refl, ◌%◌, ◌^◌, ◌+◌}
use Rattle.eo_ops.proofs.Bits.{mod_128}
use Rattle.eo_ops.proofs.Answered.{answered_bits, of_same_width}
use Rattle.eo_ops.proofs.arithmetic.add_bits.Goals as goal

pub returns : goal.returns
returns c =
    let width = c.args.width in
    let value = c.args.a + c.args.b in
    let last = mod_128 width value c.requires in
    answered_bits c.bits.result width (value % 2 ^ 128) _ c.bits.ensures c.requires (of_same_width width _ ∙ rw last refl)
