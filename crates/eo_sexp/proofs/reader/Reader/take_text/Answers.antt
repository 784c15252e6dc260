use Rattle.std.proofs.Common.{ap, sym, length, subst}
use Rattle.std.proofs.lemmas.Result.{IfOk-weaker}
use Rattle.eo_base.specs.Limits.{limits}
use Rattle.eo_sexp.specs.Reader.{held, IsReader}
use Rattle.eo_sexp.proofs.reader.Reader.take_text.Goals as goal

pub turn_behind-requires-clause-begun : goal.turn_behind-requires-clause-begun
turn_behind-requires-clause-begun c =
    let e = ap length (sym c.bytes-at.ensures) in
    record { reader = subst (IsReader limits (held c.args.buffer.now c.args.self.now)) e c.requires.reader; bytes = e }

pub keep-requires : goal.keep-requires
keep-requires c = c.requires.ahead.more

pub returns : goal.returns
returns c =
    IfOk-weaker c.keep.result _ _ (λ k h. record { moves = h.0; runs = h.1 c.args.buffer.now c.args.self.now c.turn_behind.new.self c.requires.ahead.fits c.in_ok-turn.ensures }) c.keep.ensures
