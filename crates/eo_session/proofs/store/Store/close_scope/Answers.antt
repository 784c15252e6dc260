use Rattle.std.proofs.Common.{length, refl}
use Rattle.eo_proof.specs.Kept.{scopes}
use Rattle.eo_session.proofs.Alive.{live_unscoped, live_closed}
use Rattle.eo_session.proofs.Holding.{whole_unmarked, state_unmarked, mark_within, whole_closed, state_closed}
use Rattle.eo_session.proofs.Reclaiming.{refit}
use Rattle.eo_session.proofs.Scoping.{popped_outside}
use Rattle.eo_session.proofs.store.Store.close_scope.Goals as goal

pub returns-in_default-clause-whole : goal.returns-in_default-clause-whole
returns-in_default-clause-whole c =
    let h = c.args.self.now in
    let ts = h.table.trees in
    let is = popped_outside ts c.pop.result (scopes ts h.facts) (scopes ts c.pop.new.self) (c.pop.ensures.pops ts) in
    record {
      store = whole_unmarked h c.requires.store c.pop.new.self (c.pop.ensures.below (length ts) c.requires.store.facts) is c.take_last.new.self c.in_default.ensures.same;
      live = live_unscoped h c.requires.live c.in_default.ensures.none c.pop.new.self c.pop.ensures.kept c.take_last.new.self c.in_default.ensures.same;
    }

pub returns-in_default-clause-closed : goal.returns-in_default-clause-closed
returns-in_default-clause-closed c =
    let h = c.args.self.now in
    let ts = h.table.trees in
    let is = popped_outside ts c.pop.result (scopes ts h.facts) (scopes ts c.pop.new.self) (c.pop.ensures.pops ts) in
    state_unmarked h c.requires.store c.pop.new.self (c.pop.ensures.below (length ts) c.requires.store.facts) is c.take_last.new.self c.in_default.ensures.none c.in_default.ensures.same

pub release-requires : goal.release-requires
release-requires c =
    let h = c.args.self.now in
    let ts = h.table.trees in
    let is = popped_outside ts c.pop.result (scopes ts h.facts) (scopes ts c.pop.new.self) (c.pop.ensures.pops ts) in
    mark_within h c.requires.store c.pop.new.self (c.pop.ensures.below (length ts) c.requires.store.facts) is c.in-Some.mark c.take_last.new.self c.in-Some.ensures.some

pub returns-clause-whole : goal.returns-clause-whole
returns-clause-whole c =
    let h = c.args.self.now in
    let ts = h.table.trees in
    let is = popped_outside ts c.pop.result (scopes ts h.facts) (scopes ts c.pop.new.self) (c.pop.ensures.pops ts) in
    let m = c.in-Some.mark in
    let ms = c.take_last.new.self in
    let store = whole_closed h c.requires.store c.pop.new.self (c.pop.ensures.below (length ts) c.requires.store.facts) is m ms c.in-Some.ensures.some c.release.new.self c.release.ensures.entries c.release.ensures.macros (c.release.ensures.below (length ts) c.requires.store.signature) in
    record {
      store = refit (record h { facts = c.pop.new.self; marks = ms; signature = c.release.new.self }) m.table store;
      live = live_closed h c.requires.live m ms c.in-Some.ensures.some c.pop.new.self c.pop.ensures.kept c.release.new.self c.release.ensures.entries c.release.ensures.macros ms refl;
    }

pub returns-clause-closed : goal.returns-clause-closed
returns-clause-closed c =
    let h = c.args.self.now in
    let ts = h.table.trees in
    let is = popped_outside ts c.pop.result (scopes ts h.facts) (scopes ts c.pop.new.self) (c.pop.ensures.pops ts) in
    state_closed h c.requires.store c.pop.new.self (c.pop.ensures.below (length ts) c.requires.store.facts) is c.in-Some.mark c.take_last.new.self c.in-Some.ensures.some
    c.release.new.self c.release.ensures.entries c.release.ensures.macros (c.release.ensures.below (length ts) c.requires.store.signature)

pub returns-clause-table : goal.returns-clause-table
returns-clause-table c = refl
