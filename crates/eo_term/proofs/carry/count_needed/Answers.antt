use Rattle.std.proofs.Common.{ap, ◌∙◌, arith}
use Rattle.std.proofs.lemmas.List.{take_all}
use Rattle.eo_term.specs.Carry.{trues}
use Rattle.eo_term.proofs.Marked.{trues-yes, trues-no}
use Rattle.eo_term.proofs.carry.count_needed.Goals as goal
use Rattle.eo_term.proofs.carry.count_needed.Goals.{then-b, else-b}

pub loop-b-preserved : goal.loop-b-preserved
loop-b-preserved c =
    elim c.if-b.branch [
      | then-b w ↦ record { count = omega (arith, w.count-is, trues-yes c.loop-b.b-index c.args.needed.now (omega arith) w.if-b.true, c.loop-b.invariant.count); small = omega arith }
      | else-b w ↦ record { count = omega (arith, w.count-is, trues-no c.loop-b.b-index c.args.needed.now (omega arith) w.if-b.false, c.loop-b.invariant.count); small = omega arith }
    ]

pub returns : goal.returns
returns c = c.loop-b.invariant.count ∙ ap trues (take_all c.loop-b.b-index c.args.needed.now (omega arith))
