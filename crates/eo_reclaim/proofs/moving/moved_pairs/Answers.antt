use Rattle.std.proofs.Common.{length, ap, ◌≡◌, ◌<◌, arith}
use Rattle.eo_reclaim.proofs.Moved.{pairs_left, zero_pairs}
use Rattle.eo_reclaim.proofs.moving.moved_pairs.Goals as goal

pub next-first-requires : goal.next-first-requires
next-first-requires c =
    let l : length c.loop.moved < length c.args.pairs.now = omega (arith, c.loop-test.true, c.loop.invariant.count, ap length c.as_slice-end.ensures) in
    omega (arith, pairs_left c.args.pairs.now c.loop.moved c.args.ids.now c.loop.ids c.loop.invariant.taken c.requires l)

pub next-second-requires : goal.next-second-requires
next-second-requires c =
    let l : length c.loop.moved < length c.args.pairs.now = omega (arith, c.loop-test.true, c.loop.invariant.count, ap length c.as_slice-end.ensures) in
    omega (arith, pairs_left c.args.pairs.now c.loop.moved c.args.ids.now c.loop.ids c.loop.invariant.taken c.requires l, ap length c.next-first.ensures)

pub returns : goal.returns
returns c =
    let done : length c.loop.moved ≡ length c.args.pairs.now = omega (arith, c.loop-test.false, c.loop.auto.counter-end, c.loop.invariant.count, ap length c.as_slice-end.ensures) in
    record { same = zero_pairs c.loop.moved c.args.pairs.now done; taken = c.loop.invariant.taken }
