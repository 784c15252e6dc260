use Rattle.std.proofs.Common.{◌≡◌, ◌+◌, ◌*◌, ◌^◌, ◌≤◌, true, nat_le, ap, arith, rules, tests}
use Rattle.eo_ops.specs.Operators.{Gives}
use Rattle.eo_ops.proofs.Bits.{joined_bits}
use Rattle.eo_ops.proofs.Answered.{answered_bits, shifted_up}
use Rattle.eo_ops.proofs.parts.concat_bits.Goals as goal

pub returns-clause-value : goal.returns-clause-value
returns-clause-value c =
    let width = c.args.width in
    let low_width = c.args.low_width in
    let value = c.args.high * 2 ^ low_width + c.args.low in
    let narrow : width + low_width ≤ 128 = omega arith in
    let test : nat_le (width + low_width) 128 ≡ true = search (rules, tests) in
    let shift = simp c.from.ensures at c.checked_shl.ensures in
    let both = shifted_up c.checked_shl.result width c.args.high low_width c.args.low c.requires.high_fits.1 c.requires.low_fits.1 narrow shift in
    let shifted = c.unwrap_or-shifted.ensures in
    answered_bits c.bits.result (width + low_width) value _ (simp (shifted, both) at c.bits.ensures) narrow
    (rw test (ap Gives (joined_bits width c.args.high low_width c.args.low c.requires.low_fits.1)))
