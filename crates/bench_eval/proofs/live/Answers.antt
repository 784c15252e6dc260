use Rattle.std.proofs.Common.{arith}
use Rattle.bench_eval.proofs.live.Goals as goal

pub returns : goal.returns
returns c = omega (arith, c.place.ensures, c.len.ensures)
