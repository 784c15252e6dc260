use Rattle.std.proofs.Common.{length, ap, arith}
use Rattle.eo_sexp.proofs.LimitFacts.{command_is}
use Rattle.eo_sexp.proofs.incremental.Machine.turn_begun.Goals as goal

pub turn-requires-clause-room : goal.turn-requires-clause-room
turn-requires-clause-room c = omega (arith, command_is, c.requires.begun.short, ap length c.bytes-at.ensures)
