use Rattle.std.proofs.Common.{◌≡◌, ℕ, ◌-◌, ◌+◌, ◌^◌, ◌/◌, ◌<◌, ◌≤◌, Option, Some, None, unwrap_or, refl, arith}
use Rattle.std.specs.Option.{SomeIff}
use Rattle.std.proofs.lemmas.Nat.Bits.{ones_shr}
use Rattle.std.proofs.lemmas.Nat.{pow_pos}
use Rattle.test_ops.proofs.tests.greatest.Goals as goal

ones : (width : ℕ) (shifted : Option ℕ) → width ≤ 128 → SomeIff shifted (128 - width < 128) ((2 ^ 128 - 1) / 2 ^ (128 - width)) → unwrap_or shifted 0 + 1 ≡ 2 ^ width
ones width None small is =
    let none : width ≡ 0 = omega arith in
    rw none refl
ones width (Some x) small is =
    let shift = ones_shr 128 (128 - width) (omega arith) in
    let turned : 128 - (128 - width) ≡ width = omega arith in
    let pos = pow_pos width in
    let value = rw turned at shift in
    omega (arith, value, is.1)

pub returns : goal.returns
returns c =
    let same = c.from.ensures in
    let shifted = rw same at c.checked_shr.ensures in
    rw c.unwrap_or.ensures (ones c.args.width c.checked_shr.result c.requires shifted)
