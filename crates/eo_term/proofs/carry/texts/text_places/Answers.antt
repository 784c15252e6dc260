use Rattle.std.proofs.Common.{arith}
use Rattle.eo_term.proofs.Marked.{trues-yes, trues-no, places_more}
use Rattle.eo_term.proofs.carry.texts.text_places.Goals as goal
use Rattle.eo_term.proofs.carry.texts.text_places.Goals.{then-b, else-b}

pub loop-b-preserved : goal.loop-b-preserved
loop-b-preserved c =
    let places = places_more c.args.first c.args.needed.now c.loop-b.places.items c.push.new.self.items c.loop-b.number c.loop-b.b-index c.in_ok-push.ensures.items c.loop-b.invariant.long c.loop-b.invariant.next c.loop-b.invariant.places in
    elim c.if-b.branch [
      | then-b w ↦ record { next = omega (arith, w.number-is, trues-yes c.loop-b.b-index c.args.needed.now (omega arith) w.if-b.true, c.loop-b.invariant.next); small = omega arith; long = omega (arith, c.in_ok-push.ensures.len, c.push.new.self.ok.0, c.loop-b.places.ok.0); places = places }
      | else-b w ↦ record { next = omega (arith, w.number-is, trues-no c.loop-b.b-index c.args.needed.now (omega arith) w.if-b.false, c.loop-b.invariant.next); small = omega arith; long = omega (arith, c.in_ok-push.ensures.len, c.push.new.self.ok.0, c.loop-b.places.ok.0); places = places }
    ]
