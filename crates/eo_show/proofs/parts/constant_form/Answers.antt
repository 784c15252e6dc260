use Rattle.std.proofs.Common.{ap, sym}
use Rattle.std.specs.Prelude.{not}
use Rattle.eo_sig.specs.Reading.{signature}
use Rattle.eo_show.proofs.Kept.{con_leaf}
use Rattle.eo_show.proofs.parts.constant_form.Goals as goal

pub returns-then-takes : goal.returns-then-takes
returns-then-takes c = λ t ts. con_leaf (signature ts c.args.sig.now) t c.leaf.result.shape c.leaf.result.parts.items c.leaf.ensures.shape (c.leaf.ensures.parts t) c.args.constant (c.if-takes.ensures.tells ts)

pub returns-else-takes : goal.returns-else-takes
returns-else-takes c = λ t ts. ap not (sym (c.if-takes.ensures.tells ts))
