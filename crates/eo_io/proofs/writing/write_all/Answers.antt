use Rattle.std.proofs.Common.{arith}
use Rattle.eo_io.proofs.SinkLemmas.{Adds-more}
use Rattle.eo_io.proofs.writing.write_all.Goals as goal

pub loop-done-preserved : goal.loop-done-preserved
loop-done-preserved g c =
    let i = c.loop-done.invariant in
    let more = Adds-more c.args.bytes.now c.loop-done.done c.in-Took.n _ _ _ i.within i.front c.in-Took.ensures.writes in
    record {
      within = more.0;
      front = more.1;
      later = omega arith;
    }
