use Rattle.std.proofs.Common.{◌+◌, ◌∙◌, false, ap, length, sym, subst, arith}
use Rattle.eo_base.specs.Limits.{limits}
use Rattle.eo_sexp.specs.Sexp.{Atom}
use Rattle.eo_sexp.specs.Nodes.{token_text}
use Rattle.eo_sexp.specs.Built.{Built, with_child}
use Rattle.eo_sexp.specs.Reader.{held, IsReader}
use Rattle.eo_sexp.proofs.LimitFacts.{command_is, some_token}
use Rattle.eo_sexp.proofs.AheadRuns.{word-stops, word_reader, child-bytes}
use Rattle.eo_sexp.proofs.AtomPlaces.{kept-long, kept-own}
use Rattle.eo_sexp.proofs.reader.Reader.turn_word.Goals as goal

pub overflow_add-at : goal.overflow_add-at
overflow_add-at c = omega (arith, c.requires.begun.bytes, c.requires.ahead.fits, command_is)

pub extend-requires : goal.extend-requires
extend-requires c = omega (arith, c.requires.ahead.more)

pub bounds-rest-n : goal.bounds-rest-n
bounds-rest-n c = c.requires.ahead.more

pub add_atom-requires-clause-text : goal.add_atom-requires-clause-text
add_atom-requires-clause-text c =
    let long = kept-long c.args.buffer.now c.extend.new.self c.args.rest.now c.args.n c.args.at c.requires.begun.bytes (omega (arith, c.requires.ahead.more)) c.in_ok-extend.ensures in
    (omega arith, omega (arith, long))

pub add_atom-requires-clause-own : goal.add_atom-requires-clause-own
add_atom-requires-clause-own c = kept-own limits c.args.buffer.now c.extend.new.self c.args.self.now c.args.at _ c.requires.first.gap c.requires.begun.reader c.in_ok-extend.ensures

pub add_atom-requires-clause-short : goal.add_atom-requires-clause-short
add_atom-requires-clause-short c = omega (arith, c.requires.begun.bytes, c.requires.ahead.fits, command_is)

pub overflow_add-at-2 : goal.overflow_add-at-2
overflow_add-at-2 c = omega (arith, c.requires.begun.bytes, c.requires.ahead.fits, command_is)

pub turn_gap-requires-clause-gap : goal.turn_gap-requires-clause-gap
turn_gap-requires-clause-gap c = c.requires.first.gap

pub turn_gap-requires-clause-room : goal.turn_gap-requires-clause-room
turn_gap-requires-clause-room c = omega (arith, c.requires.begun.bytes, c.requires.ahead.fits, command_is)

pub turn_gap-requires-clause-begun : goal.turn_gap-requires-clause-begun
turn_gap-requires-clause-begun c =
    let b = c.args.buffer.now in
    let h = subst (IsReader limits (held b c.args.self.now)) (sym c.requires.begun.bytes) c.requires.begun.reader in
    let kind = ap (λ k. with_child c.extend.new.self (Atom k (token_text c.extend.new.self.bytes false c.args.at (c.args.at + c.args.n)) (record { from = c.args.at; to = c.args.at + c.args.n }))) c.kind_of.ensures.kind in
    record {
      reader = word_reader limits some_token b c.extend.new.self c.add_atom.new.self c.args.self.now c.args.rest.now c.args.n c.args.at h c.requires.begun.bytes c.requires.first c.requires.ahead c.in_ok-extend.ensures (c.in_ok-add_atom.ensures ∙ kind);
      bytes = ap (λ (b : Built). length b.bytes) c.in_ok-add_atom.ensures ∙ ap length (child-bytes c.extend.new.self _)
          ∙ kept-long b c.extend.new.self c.args.rest.now c.args.n c.args.at c.requires.begun.bytes (omega (arith, c.requires.ahead.more)) c.in_ok-extend.ensures;
    }

pub returns : goal.returns
returns c =
    let b = c.args.buffer.now in
    let h = subst (IsReader limits (held b c.args.self.now)) (sym c.requires.begun.bytes) c.requires.begun.reader in
    let kind = ap (λ k. with_child c.extend.new.self (Atom k (token_text c.extend.new.self.bytes false c.args.at (c.args.at + c.args.n)) (record { from = c.args.at; to = c.args.at + c.args.n }))) c.kind_of.ensures.kind in
    word-stops limits some_token b c.extend.new.self c.add_atom.new.self c.args.self.now c.args.rest.now c.args.n c.args.at h c.requires.begun.bytes c.requires.first c.requires.ahead c.in_ok-extend.ensures (c.in_ok-add_atom.ensures ∙ kind)
    _ c.turn_gap.new.buffer c.turn_gap.new.self c.turn_gap.result c.requires.ends c.turn_gap.ensures.bytes c.turn_gap.ensures.turns
