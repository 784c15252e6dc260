use Rattle.std.proofs.Common.{refl, arith}
use Rattle.eo_sexp.proofs.MachineSteps.{placed-none}
use Rattle.eo_sexp.proofs.incremental.Machine.new.Goals as goal

pub returns-clause-sound : goal.returns-clause-sound
returns-clause-sound c = (c.in_ok-new.ensures, placed-none _ c.in_ok-new.ensures refl (omega arith))
