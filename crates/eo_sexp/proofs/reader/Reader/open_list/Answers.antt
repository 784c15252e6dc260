use Rattle.std.proofs.Common.{◌≤◌, ◌<◌, refl, sym, ap, ◌∙◌, length, arith}
use Rattle.eo_base.specs.Limits.{limits}
use Rattle.eo_sexp.specs.Built.{Built}
use Rattle.eo_sexp.specs.Reader.{held}
use Rattle.eo_sexp.proofs.LimitFacts.{nesting_is}
use Rattle.eo_sexp.proofs.ReaderSteps.{turns-deep, turns-full-open, turns-open}
use Rattle.eo_sexp.proofs.reader.Reader.open_list.Goals as goal

pub returns-then-depth-ge-NESTING-clause-turns : goal.returns-then-depth-ge-NESTING-clause-turns
returns-then-depth-ge-NESTING-clause-turns c = λ x e.
    let deep : limits.nesting ≤ length c.args.buffer.now.open_lists = omega (arith, nesting_is, c.depth.ensures, c.if-depth-ge-NESTING.true) in
    turns-deep limits (held c.args.buffer.now c.args.self.now) (held c.args.buffer.now c.args.self.now) c.args.at x c.requires.begun.reader c.requires.gap deep e

pub returns-then-is_full-clause-turns : goal.returns-then-is_full-clause-turns
returns-then-is_full-clause-turns c = λ x e.
    let room : length c.args.buffer.now.open_lists < limits.nesting = omega (arith, nesting_is, c.depth.ensures, c.if-depth-ge-NESTING.false) in
    turns-full-open limits (held c.args.buffer.now c.args.self.now) (held c.args.buffer.now c.args.self.now) c.args.at x c.requires.begun.reader c.requires.gap room (sym c.is_full.ensures ∙ c.if-is_full.true) e

pub returns-clause-turns : goal.returns-clause-turns
returns-clause-turns c = λ x e.
    let room : length c.args.buffer.now.open_lists < limits.nesting = omega (arith, nesting_is, c.depth.ensures, c.if-depth-ge-NESTING.false) in
    let same = c.in_ok-open_list.ensures in
    turns-open limits (held c.args.buffer.now c.args.self.now) _ c.args.at x c.requires.begun.reader c.requires.gap room (sym c.is_full.ensures ∙ c.if-is_full.false)
    (ap (λ (b : Built). b.open_lists) same) (ap (λ (b : Built). b.done) same) refl e
