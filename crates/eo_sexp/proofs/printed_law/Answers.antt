use Rattle.std.proofs.Common.{◌≤◌, arith}
use Rattle.eo_base.specs.Limits.{limits}
use Rattle.eo_sexp.proofs.PrintedBack.{command-printed}
use Rattle.eo_sexp.proofs.PrintedLines.{lines-read}
use Rattle.eo_sexp.proofs.ReadCommands.{symbols-fit}
use Rattle.eo_sexp.proofs.printed_law.Goals as goal

two : 2 ≤ limits.token
unfolding limits
two = omega arith

pub returns-clause-command : goal.returns-clause-command
returns-clause-command c = command-printed limits

pub returns-clause-lines : goal.returns-clause-lines
returns-clause-lines c = lines-read limits

pub returns-clause-symbols : goal.returns-clause-symbols
returns-clause-symbols c = symbols-fit limits two
