use Rattle.std.proofs.Common.{arith}
use Rattle.eo_sexp.proofs.PlainTables.{word-is}
use Rattle.eo_sexp.proofs.classes.is_word.Goals as goal

pub returns : goal.returns
returns c = word-is c.args.x (omega arith)
