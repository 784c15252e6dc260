use Rattle.std.proofs.Common.{◌≡◌, ap, sym, length, get_or, subst, arith}
use Rattle.std.proofs.lemmas.Result.{IfOk-weaker}
use Rattle.eo_base.specs.Limits.{limits}
use Rattle.eo_sexp.specs.Built.{with_byte}
use Rattle.eo_sexp.specs.Reader.{held, IsReader, Turns}
use Rattle.eo_sexp.proofs.LimitFacts.{command_is}
use Rattle.eo_sexp.proofs.AheadRuns.{stops-first}
use Rattle.eo_sexp.proofs.reader.Reader.take_byte.Goals as goal

pub turn_gap-requires-clause-begun : goal.turn_gap-requires-clause-begun
turn_gap-requires-clause-begun c =
    let e = ap length (sym c.bytes-at.ensures) in
    record { reader = subst (IsReader limits (held c.args.buffer.now c.args.self.now)) e c.requires.begun.reader; bytes = e }

pub turn_gap-requires-clause-room : goal.turn_gap-requires-clause-room
turn_gap-requires-clause-room c = omega (arith, ap length c.bytes-at.ensures, c.requires.begun.room)

pub returns : goal.returns
returns c =
    let b = c.args.buffer.now in
    let x = get_or c.args.rest.now 0 0 in
    let at : length c.bytes-at.result.now ≡ length b.bytes = ap length c.bytes-at.ensures in
    IfOk-weaker c.keep.result _ _
    (λ k h. record {
      moves = h.0;
      runs = h.1 b c.args.self.now c.turn_gap.new.self (omega (arith, c.requires.begun.room, c.requires.begun.some, command_is))
          (stops-first limits b c.turn_gap.new.buffer c.args.self.now c.turn_gap.new.self c.args.rest.now c.in_ok-turn.turn c.requires.begun.reader (omega (arith, c.requires.begun.room, c.requires.begun.some, command_is)) c.requires.begun.some c.in_ok-turn.ensures.bytes
          (subst (λ i. Turns limits (held b c.args.self.now) i x c.in_ok-turn.turn (held (with_byte c.turn_gap.new.buffer x) c.turn_gap.new.self)) at c.in_ok-turn.ensures.turns));
    })
    c.keep.ensures
