use Rattle.eo_trim.proofs.Marks.{none-more, marks-taken, marks-all}
use Rattle.eo_trim.proofs.marking.mark_all.Goals as goal

pub loop-number-init : goal.loop-number-init
loop-number-init c = none-more _

pub loop-number-preserved : goal.loop-number-preserved
loop-number-preserved c =
    marks-taken _ c.loop-number.marks c.mark.new.marks c.args.numbers.now c.loop-number.number-index 0 c.loop-number-test.true c.loop-number.invariant c.mark.ensures.marks

pub returns : goal.returns
returns c = record { marks = marks-all _ c.loop-number.marks c.args.numbers.now c.loop-number.number-index c.loop-number-test.false c.loop-number.invariant }
