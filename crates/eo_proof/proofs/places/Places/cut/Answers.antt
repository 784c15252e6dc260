use Rattle.std.proofs.Common.{List, sym, subst, take}
use Rattle.eo_proof.specs.Places.{Entry, AreFound}
use Rattle.eo_proof.proofs.Found.{found-cut}
use Rattle.eo_proof.proofs.places.Places.cut.Goals as goal

pub returns : goal.returns
returns c = λ ns h.
    let numbered = c.args.self.now.numbered.items in
    let others = c.args.self.now.others.entries in
    subst (λ (os : List Entry). AreFound (take c.args.n ns) numbered os) (sym c.truncate.ensures.entries)
    (found-cut ns numbered others c.args.n c.loop-kept.kept c.loop-kept.invariant.1 h)
