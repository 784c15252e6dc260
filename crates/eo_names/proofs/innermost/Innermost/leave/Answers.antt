use Rattle.eo_names.proofs.Indexed.{index_left}
use Rattle.eo_names.proofs.innermost.Innermost.leave.Goals as goal

pub loop-i-preserved : goal.loop-i-preserved
loop-i-preserved c = record { index = λ ls h. index_left c.args.names.now c.loop-i.i (c.get.result.0.now, c.get.result.1) ls c.loop-i.self c.unbind.new.self c.get.ensures c.unbind.ensures (c.loop-i.invariant.index ls h) }
