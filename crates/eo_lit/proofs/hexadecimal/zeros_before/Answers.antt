use Rattle.std.proofs.Common.{refl}
use Rattle.eo_lit.proofs.HexDigits.{zeros_then}
use Rattle.eo_lit.proofs.hexadecimal.zeros_before.Goals as goal

pub returns : goal.returns
returns c = zeros_then _ c.args.digits.now c.copy_from_slice.new.self refl c.copy_from_slice.ensures.after c.requires
