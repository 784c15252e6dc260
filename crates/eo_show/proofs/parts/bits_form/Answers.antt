use Rattle.std.proofs.Common.{arith}
use Rattle.eo_show.proofs.Kept.{bits_leaf}
use Rattle.eo_show.proofs.parts.bits_form.Goals as goal

pub returns-else-width-eq0 : goal.returns-else-width-eq0
returns-else-width-eq0 c = λ S t v. bits_leaf S t c.leaf.result.shape c.leaf.result.parts.items c.leaf.ensures.shape (c.leaf.ensures.parts t) c.args.width v (omega (arith, c.if-width-eq0.false))
