use Rattle.std.proofs.Common.{refl}
use Rattle.eo_run.proofs.opening.included_in.Goals as goal

pub returns : goal.returns
returns c = record { path = refl; same = c.in_file.ensures.same; numbered = c.in_file.ensures.file; plain = refl; opens = refl }
