use Rattle.std.proofs.Common.{◌≡◌, ◌∙◌, ◌<◌, ◌^◌, ◌%◌, false, nat_eq, ap, sym, arith, rules, tests}
use Rattle.std.proofs.Math.Nat.{mod-le, mod-eq_of_lt}
use Rattle.eo_ops.specs.Operators.{Gives, BitString}
use Rattle.eo_ops.proofs.Answered.{answered_bits, of_same_width}
use Rattle.eo_ops.proofs.arithmetic.zmod_bits.Goals as goal

pub returns : goal.returns
returns c =
    let width = c.args.width in
    let value = c.args.a % c.args.b in
    let by : nat_eq c.args.b 0 ≡ false = search (rules, tests) in
    let small : value < 2 ^ width = omega (arith, mod-le c.args.a c.args.b) in
    let whole = mod-eq_of_lt small in
    answered_bits c.bits.result width value _ c.bits.ensures c.requires.0
    (of_same_width width _ ∙ rw by (ap (λ n. Gives (BitString width n)) (sym whole)))
