use Rattle.std.proofs.Common.{length, ap, ◌≡◌, arith}
use Rattle.eo_reclaim.proofs.Moved.{zeros}
use Rattle.eo_reclaim.proofs.moving.moved_ids.Goals as goal

pub returns : goal.returns
returns c =
    let done : length c.loop.moved ≡ length c.args.old.now = omega (arith, c.loop-test.false, c.loop.auto.counter-end, c.loop.invariant.count, ap length c.as_slice-end.ensures) in
    record { same = zeros c.loop.moved c.args.old.now done; taken = c.loop.invariant.taken }
