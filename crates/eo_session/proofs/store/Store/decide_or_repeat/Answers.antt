use Rattle.std.proofs.Common.{sym, ◌∙◌}
use Rattle.eo_sig.specs.Reading.{read_constant}
use Rattle.eo_session.specs.Store.{state_of}
use Rattle.eo_session.proofs.Adding.{added-new, added-repeat, apart-checked}
use Rattle.eo_session.proofs.Decided.{decides-same}
use Rattle.eo_session.proofs.store.Store.decide_or_repeat.Goals as goal

pub returns-then-repeats_constant : goal.returns-then-repeats_constant
returns-then-repeats_constant c =
    let h = c.args.self.now in
    record { decides = record { live = tt; is = added-repeat (state_of h) (read_constant h.table.trees c.args.d) (sym c.repeats_constant.ensures ∙ c.if-repeats_constant.true) } }

pub decide_checked-requires-clause-named : goal.decide_checked-requires-clause-named
decide_checked-requires-clause-named c = c.requires.may.name

pub returns : goal.returns
returns c =
    let h = c.args.self.now in
    let d = read_constant h.table.trees c.args.d in
    record {
      decides =
          decides-same h c.decide_checked.result _ _
          (added-new (state_of h) d (sym c.repeats_constant.ensures ∙ c.if-repeats_constant.false) ∙ apart-checked (state_of h) d c.requires.may.sound)
          c.decide_checked.ensures.decides;
    }
