use Rattle.std.proofs.Common.{ap, sym, ◌∙◌, ◌^◌}
use Rattle.eo_lit.specs.Literals.{with_digits}
use Rattle.eo_elab.proofs.BitLemmas.{last, last_next}
use Rattle.eo_elab.proofs.bits.last_bits_of.Goals as goal

pub loop-digit-preserved : goal.loop-digit-preserved
loop-digit-preserved c =
    let all = ap (λ xs. last (2 ^ 128) (with_digits 10 c.loop-digit.value xs)) c.in-Some.ensures.cases.0 in
    let next = last_next (2 ^ 128) c.in-Some.digit.now c.in-Some.more.now c.loop-digit.value c.in_ok-value.value c.in_ok-value.ensures.value in
    (c.in_ok-value.ensures.within, sym next ∙ sym all ∙ c.loop-digit.invariant.1)
