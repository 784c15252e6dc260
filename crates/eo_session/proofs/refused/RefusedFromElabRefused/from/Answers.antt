use Rattle.std.proofs.Common.{sym, ap}
use Rattle.eo_session.specs.Stepping.{of_elab}
use Rattle.eo_session.proofs.refused.RefusedFromElabRefused.from.Goals as goal

pub returns-in-Memory : goal.returns-in-Memory
returns-in-Memory c = ap of_elab (sym c.in-Memory.is)
