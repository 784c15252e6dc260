use Rattle.std.proofs.Common.{◌≤◌, refl, sym, ◌+◌, ◌-◌, length, subst, arith}
use Rattle.eo_base.specs.Limits.{limits}
use Rattle.std.proofs.lemmas.Result.{IfOk-weaker}
use Rattle.eo_sexp.specs.declared.token.TokenTurn.TheVariants as turn
use Rattle.eo_sexp.specs.declared.reader.Position.TheVariants as position
use Rattle.eo_sexp.specs.Built.{with_byte}
use Rattle.eo_sexp.specs.Token.{opening}
use Rattle.eo_sexp.specs.Reader.{held, AddsChild, EndsAt, atom_of}
use Rattle.eo_sexp.proofs.ReaderSteps.{token-turned, turns-goes, turns-fault, turns-closes, turns-closes_whole, turns-before, turns-ends}
use Rattle.eo_sexp.proofs.TokenPositions.{text-more, closes-at, ends-at, opening-within}
use Rattle.eo_sexp.proofs.reader.Reader.turn_token.Goals as goal

pub end_token-requires-clause-ends : goal.end_token-requires-clause-ends
end_token-requires-clause-ends c =
    subst (λ n. EndsAt (held c.args.buffer.now c.args.self.now) c.args.token n (c.args.at + 1)) (sym c.requires.begun.bytes)
    (closes-at limits (held c.args.buffer.now c.args.self.now) c.args.token c.args.at (c.args.at - c.args.self.now.from) c.args.x c.requires.begun.reader c.requires.token c.in-Closes.ensures)

pub end_token-requires-in-Ends-clause-ends : goal.end_token-requires-in-Ends-clause-ends
end_token-requires-in-Ends-clause-ends c =
    subst (λ n. EndsAt (held c.args.buffer.now c.args.self.now) c.args.token n c.args.at) (sym c.requires.begun.bytes)
    (ends-at limits (held c.args.buffer.now c.args.self.now) c.args.token c.args.at (c.args.at - c.args.self.now.from) c.args.x c.requires.begun.reader c.requires.token c.in-Ends.ensures)

pub returns-in-Goes-clause-turns : goal.returns-in-Goes-clause-turns
returns-in-Goes-clause-turns c =
    let old = held c.args.buffer.now c.args.self.now in
    let k = token-turned limits old c.args.token (turn.Goes c.in-Goes.token) c.args.at c.args.x c.requires.begun.reader c.requires.token c.in-Goes.ensures in
    let within : c.args.self.now.from + length (opening c.args.token) ≤ length c.args.buffer.now.bytes = omega (arith, opening-within limits old c.args.token c.args.at c.requires.begun.reader c.requires.token, c.requires.begun.bytes) in
    turns-goes limits old _ c.args.token c.in-Goes.token c.args.at c.args.x c.requires.begun.reader c.requires.token k
    refl refl refl refl (text-more c.args.self.now.position c.args.token c.in-Goes.token c.args.self.now.from c.args.x c.args.buffer.now.bytes c.requires.token k.2 within)

pub returns-in-Fault-clause-turns : goal.returns-in-Fault-clause-turns
returns-in-Fault-clause-turns c =
    turns-fault limits (held c.args.buffer.now c.args.self.now) (held c.args.buffer.now c.args.self.now) c.args.token c.in-Fault.name c.args.at c.args.x c.requires.begun.reader c.requires.token
    (token-turned limits (held c.args.buffer.now c.args.self.now) c.args.token (turn.Fault c.in-Fault.name) c.args.at c.args.x c.requires.begun.reader c.requires.token c.in-Fault.ensures)

pub returns-then-whole-clause-turns : goal.returns-then-whole-clause-turns
returns-then-whole-clause-turns c =
    turns-closes_whole limits (held c.args.buffer.now c.args.self.now) (held (with_byte c.end_token.new.buffer c.args.x) (record { position = position.Gap; from = c.args.self.now.from })) c.args.token c.args.at (c.args.at + 1) c.args.x c.requires.begun.reader c.requires.token (omega arith)
    (token-turned limits (held c.args.buffer.now c.args.self.now) c.args.token turn.Closes c.args.at c.args.x c.requires.begun.reader c.requires.token c.in-Closes.ensures)
    (subst (AddsChild limits c.args.buffer.now (atom_of (held c.args.buffer.now c.args.self.now) c.args.token (c.args.at + 1)) c.end_token.new.buffer) c.if-whole.true c.in_ok-whole-in-Closes.ensures.added)

pub returns-else-whole-clause-turns : goal.returns-else-whole-clause-turns
returns-else-whole-clause-turns c =
    turns-closes limits (held c.args.buffer.now c.args.self.now) (held (with_byte c.end_token.new.buffer c.args.x) (record { position = position.Gap; from = c.args.self.now.from })) c.args.token c.args.at (c.args.at + 1) c.args.x c.requires.begun.reader c.requires.token (omega arith)
    (token-turned limits (held c.args.buffer.now c.args.self.now) c.args.token turn.Closes c.args.at c.args.x c.requires.begun.reader c.requires.token c.in-Closes.ensures)
    refl (subst (AddsChild limits c.args.buffer.now (atom_of (held c.args.buffer.now c.args.self.now) c.args.token (c.args.at + 1)) c.end_token.new.buffer) c.if-whole.false c.in_ok-whole-in-Closes.ensures.added)

pub returns-then-whole-2-clause-turns : goal.returns-then-whole-2-clause-turns
returns-then-whole-2-clause-turns c =
    turns-before limits (held c.args.buffer.now c.args.self.now) (held (with_byte c.end_token-in-Ends.new.buffer c.args.x) (record { position = position.Gap; from = c.args.self.now.from })) c.args.token c.args.at c.args.x c.requires.begun.reader c.requires.token
    (token-turned limits (held c.args.buffer.now c.args.self.now) c.args.token turn.Ends c.args.at c.args.x c.requires.begun.reader c.requires.token c.in-Ends.ensures)
    (subst (AddsChild limits c.args.buffer.now (atom_of (held c.args.buffer.now c.args.self.now) c.args.token c.args.at) c.end_token-in-Ends.new.buffer) c.if-whole-2.true c.in_ok-whole-in-Ends.ensures.added)

pub returns-else-whole-2-clause-turns : goal.returns-else-whole-2-clause-turns
returns-else-whole-2-clause-turns c =
    IfOk-weaker c.turn_gap.result _ _
    (λ t h. turns-ends limits (held c.args.buffer.now c.args.self.now) (held c.end_token-in-Ends.new.buffer (record { position = position.Gap; from = c.args.self.now.from })) (held (with_byte c.turn_gap.new.buffer c.args.x) c.turn_gap.new.self) c.args.token c.args.at c.args.x t c.requires.begun.reader c.requires.token
    (token-turned limits (held c.args.buffer.now c.args.self.now) c.args.token turn.Ends c.args.at c.args.x c.requires.begun.reader c.requires.token c.in-Ends.ensures)
    refl (subst (AddsChild limits c.args.buffer.now (atom_of (held c.args.buffer.now c.args.self.now) c.args.token c.args.at) c.end_token-in-Ends.new.buffer) c.if-whole-2.false c.in_ok-whole-in-Ends.ensures.added) h)
    c.turn_gap.ensures.turns
