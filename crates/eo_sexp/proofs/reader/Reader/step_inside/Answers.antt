use Rattle.std.proofs.Common.{arith}
use Rattle.eo_sexp.proofs.LimitFacts.{command_is}
use Rattle.eo_sexp.proofs.reader.Reader.step_inside.Goals as goal

pub run_plain-requires-clause-short : goal.run_plain-requires-clause-short
run_plain-requires-clause-short c = omega (arith, c.requires.room, command_is)
