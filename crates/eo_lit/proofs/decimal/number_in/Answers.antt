use Rattle.std.proofs.Common.{◌≡◌, ◌∙◌, ap, sym, refl, ◌+◌, ◌<◌, ◌^◌, None, option_and_then, length, drop, arith, rules, tests}
use Rattle.eo_lit.specs.Literals.{with_digits}
use Rattle.eo_lit.specs.Reading.{in_128_bits}
use Rattle.eo_lit.proofs.Digits.{one_digit_more, no_digit_more, digits_value_all}
use Rattle.eo_lit.proofs.decimal.number_in.Goals as goal

pub returns-in_err-value : goal.returns-in_err-value
returns-in_err-value c =
    let digits = c.args.digits.now in
    let i = c.loop-digit.digit-index in
    let some : 0 < length digits = omega arith in
    let more = one_digit_more c.args.base c.loop-digit.value digits i c.with_digit.result c.requires.some c.loop-digit-test.true c.with_digit.ensures in
    let stops : in_128_bits (option_and_then (λ m. with_digits c.args.base m (drop (i + 1) digits)) c.with_digit.result) ≡ None = rw c.in_err-value.was refl in
    c.from_residual.ensures ∙ sym (ap in_128_bits (digits_value_all c.args.base digits some) ∙ sym c.loop-digit.invariant.1 ∙ more ∙ stops)

pub returns : goal.returns
returns c =
    let digits = c.args.digits.now in
    let some : 0 < length digits = search (rules, tests) in
    let small : c.loop-digit.value < 2 ^ 128 = c.loop-digit.invariant.0 in
    let last = no_digit_more c.args.base c.loop-digit.value digits c.loop-digit.digit-index (omega arith) small in
    sym (ap in_128_bits (digits_value_all c.args.base digits some) ∙ sym c.loop-digit.invariant.1 ∙ last)
