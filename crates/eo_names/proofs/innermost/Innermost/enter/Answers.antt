use Rattle.std.proofs.Common.{arith}
use Rattle.eo_names.proofs.Indexed.{index_entered}
use Rattle.eo_names.proofs.innermost.Innermost.enter.Goals as goal

pub loop-left-preserved : goal.loop-left-preserved
loop-left-preserved c = record {
  within = omega (arith, c.loop-left.invariant.within);
  index = λ ls h. index_entered c.args.names.now c.loop-left.left (c.get-id.result.0.now, c.get-id.result.1) ls c.loop-left.self c.bind.new.self c.loop-left-test.true c.get-id.ensures c.in_default.ensures.bound (c.loop-left.invariant.index ls h);
}
