use Rattle.std.proofs.Common.{refl, arith, length, ◌∙◌}
use Rattle.eo_trim.proofs.Marks.{marked-none, marked-before, below-there}
use Rattle.eo_trim.proofs.marking.mark_needs.Goals as goal

pub loop-left-init : goal.loop-left-init
loop-left-init c = record {
  within = omega (arith, c.len-left.ensures);
  same = refl;
  marks = λ below. marked-none c.args.entries.now c.args.marks.now c.len-left.result (omega (arith, c.len-left.ensures));
}

pub loop-left-preserved : goal.loop-left-preserved
loop-left-preserved c =
    let before = c.loop-left.invariant in
    record {
      within = omega (arith, before.within);
      same = c.mark_need.ensures.same ∙ before.same;
      marks = λ below. marked-before c.args.entries.now c.args.marks.now c.loop-left.marks c.mark_need.new.marks c.loop-left.left _
          (omega (arith, c.loop-left-test.true)) (omega (arith, before.within, c.loop-left-test.true)) (before.marks below)
          (λ e at later h. c.mark_need.ensures.marks e at (below-there (length c.args.marks.now) (length c.loop-left.marks) c.args.entries.now _ e before.same at below) later h);
    }
