use Rattle.std.proofs.Common.{arith}
use Rattle.eo_trim.specs.Marking.{is_marked}
use Rattle.eo_trim.proofs.Marks.{text-next}
use Rattle.eo_trim.proofs.writing.trimmed_text.Goals as goal

pub loop-i-preserved : goal.loop-i-preserved
loop-i-preserved c =
    text-next (is_marked c.args.marks.now) c.args.entries.now c.loop-i.i c.loop-i.text.items c.push_line.new.text.items
    (omega (arith, c.loop-i-test.true, c.len-i-end.ensures)) c.loop-i.invariant c.in_ok-push_line.ensures.line
