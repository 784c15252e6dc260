use Rattle.std.proofs.Common.{◌+◌, ◌∙◌, false, ap, sym, subst, arith}
use Rattle.std.proofs.lemmas.Result.{IfOk-weaker}
use Rattle.eo_base.specs.Limits.{limits}
use Rattle.eo_sexp.specs.Sexp.{Atom}
use Rattle.eo_sexp.specs.Nodes.{token_text}
use Rattle.eo_sexp.specs.Built.{with_child}
use Rattle.eo_sexp.specs.Reader.{held, IsReader}
use Rattle.eo_sexp.proofs.LimitFacts.{command_is, some_token}
use Rattle.eo_sexp.proofs.AheadRuns.{word-space}
use Rattle.eo_sexp.proofs.AtomPlaces.{kept-long, kept-own}
use Rattle.eo_sexp.proofs.reader.Reader.take_word.Goals as goal

pub overflow_add-at : goal.overflow_add-at
overflow_add-at c = omega (arith, c.requires.begun.bytes, c.requires.ahead.fits, command_is)

pub overflow_add-n : goal.overflow_add-n
overflow_add-n c = omega (arith, c.requires.ahead.fits, command_is)

pub overflow_add-result : goal.overflow_add-result
overflow_add-result c = omega (arith, c.requires.ahead.fits, command_is)

pub extend-requires : goal.extend-requires
extend-requires c = omega (arith, c.requires.ahead.more)

pub bounds-rest-n : goal.bounds-rest-n
bounds-rest-n c = c.requires.ahead.more

pub add_atom-requires-clause-text : goal.add_atom-requires-clause-text
add_atom-requires-clause-text c =
    let long = kept-long c.args.buffer.now c.extend.new.self c.args.rest.now (c.args.n + 1) c.args.at c.requires.begun.bytes (omega (arith, c.requires.ahead.more)) c.in_ok-extend.ensures in
    (omega arith, omega (arith, long))

pub add_atom-requires-clause-own : goal.add_atom-requires-clause-own
add_atom-requires-clause-own c = kept-own limits c.args.buffer.now c.extend.new.self c.args.self.now c.args.at _ c.requires.first.gap c.requires.begun.reader c.in_ok-extend.ensures

pub add_atom-requires-clause-short : goal.add_atom-requires-clause-short
add_atom-requires-clause-short c = omega (arith, c.requires.begun.bytes, c.requires.ahead.fits, command_is)

pub returns-then-rest-n-eq32 : goal.returns-then-rest-n-eq32
returns-then-rest-n-eq32 c =
    let b = c.args.buffer.now in
    let h = subst (IsReader limits (held b c.args.self.now)) (sym c.requires.begun.bytes) c.requires.begun.reader in
    let kind = ap (λ k. with_child c.extend.new.self (Atom k (token_text c.extend.new.self.bytes false c.args.at (c.args.at + c.args.n)) (record { from = c.args.at; to = c.args.at + c.args.n }))) c.kind_of.ensures.kind in
    let runs = word-space limits some_token b c.extend.new.self c.add_atom.new.self c.args.self.now c.args.rest.now c.args.n c.args.at
    h c.requires.begun.bytes c.requires.first c.requires.ahead c.requires.ends c.if-rest-n-eq32.true c.in_ok-extend.ensures (c.in_ok-add_atom.ensures ∙ kind) in
    record { moves = λ e. omega arith; runs = runs }

pub keep-requires : goal.keep-requires
keep-requires c = c.requires.ahead.more

pub returns : goal.returns
returns c =
    IfOk-weaker c.keep.result _ _ (λ k h. record { moves = h.0; runs = h.1 c.args.buffer.now c.args.self.now c.turn_word.new.self c.requires.ahead.fits c.in_ok-turn.ensures }) c.keep.ensures
