use Rattle.std.proofs.Common.{◌≡◌, suc, ◌+◌, ◌∙◌, ap, sym, drop, get_or, arith}
use Rattle.eo_proof.specs.Places.{next_number, number_from}
use Rattle.eo_proof.proofs.Found.{number_on, number_end}
use Rattle.eo_proof.proofs.places.number_in.Goals as goal

pub loop-b-preserved : goal.loop-b-preserved
loop-b-preserved c =
    let name = c.args.name.now in
    let i = c.loop-b.b-index in
    let next : i + 1 ≡ suc i = omega arith in
    ap (λ n. number_from n (drop (i + 1) name)) c.next_number-number.ensures
    ∙ ap (λ k. number_from (next_number c.loop-b.number (get_or name i 0)) (drop k name)) next
    ∙ sym (number_on c.loop-b.number name i c.loop-b-test.true) ∙ c.loop-b.invariant

pub returns : goal.returns
returns c = sym (number_end c.loop-b.number c.args.name.now c.loop-b.b-index c.loop-b-test.false) ∙ c.loop-b.invariant
