use Rattle.std.proofs.Common.{◌≡◌, ◌+◌, ap, sym, length, length-append, length-take-le, get_or, take, subst, arith}
use Rattle.eo_base.specs.Limits.{limits}
use Rattle.eo_sexp.specs.Built.{with_byte}
use Rattle.eo_sexp.specs.Reader.{held, IsReader, Turns}
use Rattle.eo_sexp.proofs.LimitFacts.{command_is, some_token}
use Rattle.eo_sexp.proofs.AheadRuns.{in_token, ahead-runs, both-ok}
use Rattle.eo_sexp.proofs.reader.Reader.turn_behind.Goals as goal

pub overflow_add-at : goal.overflow_add-at
overflow_add-at c = omega (arith, c.requires.begun.bytes, c.requires.ahead.fits, command_is)

pub turn_token-requires-clause-begun : goal.turn_token-requires-clause-begun
turn_token-requires-clause-begun c =
    let b = c.args.buffer.now in
    let h = subst (IsReader limits (held b c.args.self.now)) (sym c.requires.begun.bytes) c.requires.begun.reader in
    let run = ahead-runs limits some_token b c.extend.new.self c.args.self.now c.args.token c.args.rest.now c.args.n h c.requires.first c.requires.ahead c.in_ok-extend.ensures in
    let long : length c.extend.new.self.bytes ≡ c.args.at + c.args.n = omega (arith, ap length run.bytes, length-append b.bytes (take c.args.n c.args.rest.now), length-take-le c.args.n c.args.rest.now run.within, c.requires.begun.bytes) in
    record {
      reader = subst (λ a. IsReader limits (held c.extend.new.self (in_token c.args.token a)) (c.args.at + c.args.n)) c.requires.begun.bytes (subst (λ i. IsReader limits (held c.extend.new.self (in_token c.args.token (length b.bytes))) i) long run.reader);
      bytes = long;
    }

pub turn_token-requires-clause-room : goal.turn_token-requires-clause-room
turn_token-requires-clause-room c = omega (arith, c.requires.begun.bytes, c.requires.ahead.fits, command_is)

pub returns : goal.returns
returns c =
    let b = c.args.buffer.now in
    let x = get_or c.args.rest.now c.args.n 0 in
    let h = subst (IsReader limits (held b c.args.self.now)) (sym c.requires.begun.bytes) c.requires.begun.reader in
    let run = ahead-runs limits some_token b c.extend.new.self c.args.self.now c.args.token c.args.rest.now c.args.n h c.requires.first c.requires.ahead c.in_ok-extend.ensures in
    let long : length c.extend.new.self.bytes ≡ c.args.at + c.args.n = omega (arith, ap length run.bytes, length-append b.bytes (take c.args.n c.args.rest.now), length-take-le c.args.n c.args.rest.now run.within, c.requires.begun.bytes) in
    both-ok c.turn_token.result _ _ _
    (λ t same u. record {
      buffer = c.extend.new.self;
      reader = in_token c.args.token (length b.bytes);
      run = run;
      more = c.requires.ahead.more;
      bytes = same;
      turns = subst (λ i. Turns limits (held c.extend.new.self (in_token c.args.token (length b.bytes))) i x t (held (with_byte c.turn_token.new.buffer x) c.turn_token.new.self)) (sym long)
          (subst (λ a. Turns limits (held c.extend.new.self (in_token c.args.token a)) (c.args.at + c.args.n) x t (held (with_byte c.turn_token.new.buffer x) c.turn_token.new.self)) (sym c.requires.begun.bytes) u);
    }) c.turn_token.ensures.bytes c.turn_token.ensures.turns
