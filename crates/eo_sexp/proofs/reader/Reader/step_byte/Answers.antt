use Rattle.std.proofs.Common.{◌≡◌, ap, length, get_or, subst, arith}
use Rattle.std.proofs.lemmas.Result.{IfOk-weaker}
use Rattle.eo_base.specs.Limits.{limits}
use Rattle.eo_sexp.specs.Built.{with_byte}
use Rattle.eo_sexp.specs.Reader.{held, Turns}
use Rattle.eo_sexp.proofs.LimitFacts.{command_is}
use Rattle.eo_sexp.proofs.AheadRuns.{stops-first}
use Rattle.eo_sexp.proofs.reader.Reader.step_byte.Goals as goal

pub returns : goal.returns
returns c =
    let b = c.args.buffer.now in
    let x = get_or c.args.rest.now 0 0 in
    let at : length c.bytes-at.result.now ≡ length b.bytes = ap length c.bytes-at.ensures in
    IfOk-weaker c.keep.result _ _
    (λ k h. record {
      moves = h.0;
      runs = h.1 b c.args.self.now c.turn.new.self (omega (arith, c.requires.room, c.requires.some, command_is))
          (stops-first limits b c.turn.new.buffer c.args.self.now c.turn.new.self c.args.rest.now c.in_ok-turn.turn c.requires.reader (omega (arith, c.requires.room, c.requires.some, command_is)) c.requires.some c.in_ok-turn.ensures.bytes
          (subst (λ i. Turns limits (held b c.args.self.now) i x c.in_ok-turn.turn (held (with_byte c.turn.new.buffer x) c.turn.new.self)) at c.in_ok-turn.ensures.turns));
    })
    c.keep.ensures
