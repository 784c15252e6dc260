use Rattle.std.proofs.Common.{ℕ, false, refl, take, ap, sym, subst}
use Rattle.eo_term.specs.Terms.{IsMark}
use Rattle.eo_session.specs.declared.store.Store.{Store}
use Rattle.eo_session.proofs.Alive.{live_first}
use Rattle.eo_session.proofs.Holding.{IsFirst, state_first, whole_first}
use Rattle.eo_session.proofs.Reclaiming.{none_open}
use Rattle.eo_session.proofs.beginning.first.Goals as goal

pub returns-clause-settled : goal.returns-clause-settled
returns-clause-settled c =
    let h : Store = record { alloc = c.args.alloc; table = c.args.table; signature = c.args.signature; types = c.new-types.result; evaluator = c.new-evaluator.result; subst = c.new-subst.result; assertions = c.new-assertions.result; has_reference = false; facts = c.new-facts.result; marks = c.new-marks.result; kept = c.mark-kept.result; sorry = false; closed = c.args.closed; commands = 0 } in
    let first : IsFirst h c.args.closed = record {
      trees = c.requires.trees;
      kept = c.requires.signature.kept;
      signature = c.requires.signature.read h.table.trees (ap (take 4) c.requires.trees);
      assertions = c.new-assertions.ensures;
      reference = refl;
      facts = c.new-facts.ensures.none;
      marks = c.new-marks.ensures;
      sorry = refl;
      closed_is = refl;
      commands = refl;
    } in
    let store = whole_first h c.args.closed first c.requires.signature.below (c.requires.signature.usable h.table.trees (ap (take 4) c.requires.trees)) (c.new-types.ensures.fits _ _) c.laws.ensures in
    let at = c.mark-kept.ensures.mark in
    record {
      whole = record {
        store = store;
        live = live_first h c.requires.trees at (subst (IsMark h.table) at c.mark-kept.ensures.holds) c.requires.signature.kept c.new-assertions.ensures c.new-marks.ensures (none_open h.facts c.new-facts.ensures.none) store.signature store.facts;
      };
      settled = sym (ap (λ (m : ℕ × ℕ). m.0) at);
    }

pub returns-clause-state : goal.returns-clause-state
returns-clause-state c =
    let h : Store = record { alloc = c.args.alloc; table = c.args.table; signature = c.args.signature; types = c.new-types.result; evaluator = c.new-evaluator.result; subst = c.new-subst.result; assertions = c.new-assertions.result; has_reference = false; facts = c.new-facts.result; marks = c.new-marks.result; kept = c.mark-kept.result; sorry = false; closed = c.args.closed; commands = 0 } in
    state_first h c.args.closed (record {
      trees = c.requires.trees;
      kept = c.requires.signature.kept;
      signature = c.requires.signature.read h.table.trees (ap (take 4) c.requires.trees);
      assertions = c.new-assertions.ensures;
      reference = refl;
      facts = c.new-facts.ensures.none;
      marks = c.new-marks.ensures;
      sorry = refl;
      closed_is = refl;
      commands = refl;
    })
