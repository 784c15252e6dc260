use Rattle.std.proofs.Common.{sym, arith, ◌+◌, length, ap}
use Rattle.std.proofs.lemmas.List.{take_rest}
use Rattle.eo_sexp.specs.Machine.{meaning}
use Rattle.eo_sexp.proofs.FedAnswers.{feeding-stands, feeding-begins, feeding-ends, feed-some, feed-none, run-none, run-some, run-room}
use Rattle.eo_sexp.proofs.incremental.Machine.feed.Goals as goal

pub returns-in-Some-clause-feeds : goal.returns-in-Some-clause-feeds
returns-in-Some-clause-feeds c =
    feeding-stands (meaning c.args.self.now) c.go_on.new.self c.args.piece.now c.offset-first.result c.in-Some.fed c.go_on.ensures.sound c.go_on.ensures.meant c.offset-first.ensures (sym c.in-Some.ensures)

pub loop-taken-init : goal.loop-taken-init
loop-taken-init c = (
  omega arith,
  feeding-begins (meaning c.args.self.now) c.go_on.new.self c.args.piece.now c.offset-first.result c.go_on.ensures.sound c.go_on.ensures.meant c.offset-first.ensures c.requires.room (sym c.in_default.ensures),
)

pub returns-in-Some-feed_byte-clause-feeds : goal.returns-in-Some-feed_byte-clause-feeds
returns-in-Some-feed_byte-clause-feeds c =
    feed-some (meaning c.args.self.now) c.args.piece.now c.offset-first.result c.loop-taken.taken c.loop-taken.self c.feed_byte.new.self c.in-Some-feed_byte.fed c.loop-taken.invariant.1 c.loop-taken-test.true c.in-Some-feed_byte.ensures

pub feed_run-requires-clause-room : goal.feed_run-requires-clause-room
feed_run-requires-clause-room c =
    let next = feed-none (meaning c.args.self.now) c.args.piece.now c.offset-first.result c.loop-taken.taken c.loop-taken.self c.feed_byte.new.self c.loop-taken.invariant.1 c.loop-taken-test.true c.in_default-feed_byte.ensures in
    run-room (meaning c.args.self.now) c.args.piece.now _ c.offset-first.result (c.loop-taken.taken + 1) c.feed_byte.new.self next (omega (arith, c.loop-taken-test.true)) (take_rest c.args.piece.now (c.loop-taken.taken + 1))

pub loop-taken-preserved : goal.loop-taken-preserved
loop-taken-preserved c =
    let next = feed-none (meaning c.args.self.now) c.args.piece.now c.offset-first.result c.loop-taken.taken c.loop-taken.self c.feed_byte.new.self c.loop-taken.invariant.1 c.loop-taken-test.true c.in_default-feed_byte.ensures in
    let k = c.in-Ok.ensures.goes in (
      omega (arith, c.loop-taken-test.true, k.within, ap length (take_rest c.args.piece.now (c.loop-taken.taken + 1))),
      run-none (meaning c.args.self.now) c.args.piece.now _ c.offset-first.result (c.loop-taken.taken + 1) c.in-Ok.more c.feed_byte.new.self c.feed_run.new.self next (take_rest c.args.piece.now (c.loop-taken.taken + 1)) k,
    )

pub returns-in-Err-clause-feeds : goal.returns-in-Err-clause-feeds
returns-in-Err-clause-feeds c =
    let next = feed-none (meaning c.args.self.now) c.args.piece.now c.offset-first.result c.loop-taken.taken c.loop-taken.self c.feed_byte.new.self c.loop-taken.invariant.1 c.loop-taken-test.true c.in_default-feed_byte.ensures in
    run-some (meaning c.args.self.now) c.args.piece.now _ c.offset-first.result (c.loop-taken.taken + 1) c.feed_byte.new.self c.feed_run.new.self c.in-Err.fed next (take_rest c.args.piece.now (c.loop-taken.taken + 1)) c.in-Err.ensures.stops

pub returns-clause-feeds : goal.returns-clause-feeds
returns-clause-feeds c = feeding-ends (meaning c.args.self.now) c.args.piece.now c.offset-first.result c.loop-taken.taken c.loop-taken.self c.loop-taken.invariant.1 c.loop-taken-test.false
