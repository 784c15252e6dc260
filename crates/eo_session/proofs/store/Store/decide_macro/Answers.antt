use Rattle.std.proofs.Common.{sym, ◌∙◌}
use Rattle.eo_sig.specs.Reading.{read_macro, read_named}
use Rattle.eo_session.specs.Store.{state_of}
use Rattle.eo_session.proofs.Adding.{found-none, found-some, found-free, macro-new, macro-repeat, macro-redeclared}
use Rattle.eo_session.proofs.store.Store.decide_macro.Goals as goal

pub returns-in-None : goal.returns-in-None
returns-in-None c =
    let h = c.args.self.now in
    let is = found-none h c.args.d.name c.as_bytes.result.now c.as_bytes.ensures c.lookup.result c.lookup.ensures.named c.in-None.is in
    let free = found-free h c.args.d.name c.as_bytes.result.now c.as_bytes.ensures c.lookup.result c.lookup.ensures.named c.in-None.is c.requires.may in
    record { decides = record { live = record { below = c.requires.below; free = free; bound = c.requires.bound }; is = macro-new (state_of h) (read_macro h.table.trees c.args.d) is } }

pub returns-then-repeats_macro : goal.returns-then-repeats_macro
returns-then-repeats_macro c =
    let h = c.args.self.now in
    let is = found-some h c.args.d.name c.as_bytes.result.now c.as_bytes.ensures c.lookup.result c.lookup.ensures.named c.in-Some.entry c.in-Some.is in
    record { decides = record { live = tt; is = macro-repeat (state_of h) (read_macro h.table.trees c.args.d) (read_named c.in-Some.entry) is c.requires.may (sym c.repeats_macro.ensures ∙ c.if-repeats_macro.true) } }

pub returns : goal.returns
returns c =
    let h = c.args.self.now in
    let is = found-some h c.args.d.name c.as_bytes.result.now c.as_bytes.ensures c.lookup.result c.lookup.ensures.named c.in-Some.entry c.in-Some.is in
    record { decides = (macro-redeclared (state_of h) (read_macro h.table.trees c.args.d) (read_named c.in-Some.entry) is c.requires.may (sym c.repeats_macro.ensures ∙ c.if-repeats_macro.false), λ q. absurd cc) }
