use Rattle.std.proofs.Common.{refl, sym, ◌∙◌, ◌+◌, subst, arith}
use Rattle.eo_base.specs.Limits.{limits}
use Rattle.eo_sexp.specs.Built.{with_byte}
use Rattle.eo_sexp.specs.Reader.{held, ClosesList}
use Rattle.eo_sexp.proofs.ReaderSteps.{turns-space, turns-comment, turns-bad, turns-close, turns-close_whole, turns-full, turns-atom}
use Rattle.eo_sexp.proofs.TokenBegins.{atom-class}
use Rattle.eo_sexp.proofs.reader.Reader.turn_gap.Goals as goal

pub returns-in-Space-clause-turns : goal.returns-in-Space-clause-turns
returns-in-Space-clause-turns c = turns-space limits (held c.args.buffer.now c.args.self.now) (held (with_byte c.args.buffer.now c.args.x) c.args.self.now) c.args.at c.args.x c.requires.begun.reader c.requires.gap refl refl c.requires.gap (sym c.in-Space.ensures)

pub returns-in-Comment-clause-turns : goal.returns-in-Comment-clause-turns
returns-in-Comment-clause-turns c = turns-comment limits (held c.args.buffer.now c.args.self.now) _ c.args.at c.args.x c.requires.begun.reader c.requires.gap refl refl refl (sym c.in-Comment.ensures)

pub returns-in-Other-clause-turns : goal.returns-in-Other-clause-turns
returns-in-Other-clause-turns c = turns-bad limits (held c.args.buffer.now c.args.self.now) (held c.args.buffer.now c.args.self.now) c.args.at c.args.x c.requires.begun.reader c.requires.gap (sym c.in-Other.ensures)

pub returns-then-close_list-clause-turns : goal.returns-then-close_list-clause-turns
returns-then-close_list-clause-turns c =
    turns-close_whole limits (held c.args.buffer.now c.args.self.now) (held (with_byte c.close_list.new.buffer c.args.x) c.args.self.now) c.args.at (c.args.at + 1) c.args.x c.requires.begun.reader c.requires.gap (omega arith) (sym c.in-Close.ensures)
    (subst (ClosesList limits c.args.buffer.now (c.args.at + 1) c.close_list.new.buffer) c.if-close_list.true c.close_list.ensures.closed)

pub returns-else-close_list-clause-turns : goal.returns-else-close_list-clause-turns
returns-else-close_list-clause-turns c =
    turns-close limits (held c.args.buffer.now c.args.self.now) (held (with_byte c.close_list.new.buffer c.args.x) c.args.self.now) c.args.at (c.args.at + 1) c.args.x c.requires.begun.reader c.requires.gap refl (omega arith) (sym c.in-Close.ensures)
    (subst (ClosesList limits c.args.buffer.now (c.args.at + 1) c.close_list.new.buffer) c.if-close_list.false c.close_list.ensures.closed)

pub returns-then-is_full-clause-turns : goal.returns-then-is_full-clause-turns
returns-then-is_full-clause-turns c =
    turns-full limits (held c.args.buffer.now c.args.self.now) (held c.args.buffer.now c.args.self.now) c.args.at c.args.x c.requires.begun.reader c.requires.gap (sym c.is_full.ensures ∙ c.if-is_full.true)
    (atom-class c.classify.result c.args.x c.classify.ensures c.in_default.not-Space c.in_default.not-Comment c.in_default.not-Other c.in_default.not-Open c.in_default.not-Close)

pub returns-else-is_full-clause-turns : goal.returns-else-is_full-clause-turns
returns-else-is_full-clause-turns c =
    turns-atom limits (held c.args.buffer.now c.args.self.now) (held (with_byte c.args.buffer.now c.args.x) c.begin_token.new.self) c.args.at c.args.x c.requires.begun.reader c.requires.gap (sym c.is_full.ensures ∙ c.if-is_full.false)
    (atom-class c.classify.result c.args.x c.classify.ensures c.in_default.not-Space c.in_default.not-Comment c.in_default.not-Other c.in_default.not-Open c.in_default.not-Close)
    (c.begin_token.ensures c.args.buffer.now c.requires.begun.bytes)
