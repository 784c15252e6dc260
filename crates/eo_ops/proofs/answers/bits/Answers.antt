use Rattle.std.proofs.Common.{arith, ◌≡◌, ◌-◌, ◌^◌, refl}
use Rattle.std.proofs.lemmas.Nat.{and_mask}
use Rattle.eo_ops.proofs.answers.bits.Goals as goal

pub returns : goal.returns
returns c =
    let mask : c.low_ones.result ≡ 2 ^ c.args.width - 1 = omega arith in
    rw (mask, and_mask) refl
