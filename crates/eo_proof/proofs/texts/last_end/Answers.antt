use Rattle.std.proofs.Common.{sym}
use Rattle.eo_proof.proofs.Ends.{last-some, last-none}
use Rattle.eo_proof.proofs.texts.last_end.Goals as goal

pub returns-in-Some : goal.returns-in-Some
returns-in-Some c = sym (last-some c.args.ends.now c.in-Some.end.now (sym c.in-Some.ensures.value))

pub returns-in-None : goal.returns-in-None
returns-in-None c = sym (last-none c.args.ends.now (sym c.in-None.ensures.value))
