use Rattle.std.proofs.Common.{arith}
use Rattle.eo_sexp.proofs.count.Count.new.Goals as goal

pub returns : goal.returns
returns c = omega arith
