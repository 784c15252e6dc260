use Rattle.std.proofs.Common.{sym, ap}
use Rattle.eo_run.specs.Run.{is_exit}
use Rattle.eo_run.proofs.reading.is_exit.Goals as goal

pub returns-in-Exit : goal.returns-in-Exit
returns-in-Exit c = sym (ap is_exit c.in-Exit.is)
