use Rattle.std.proofs.Common.{◌≡◌, ℕ, ◌∷◌, length, sym, subst, ap, ◌∙◌}
use Rattle.eo_elab.specs.Worlds.{named_terms_in}
use Rattle.eo_term.specs.Growth.{tree_in}
use Rattle.eo_sig.specs.Reading.{read_entry, read_macro, signature}
use Rattle.eo_sig.specs.Signature.{is_reserved}
use Rattle.eo_proof.specs.Scopes.{is_live}
use Rattle.eo_term.specs.Terms.{IsMark}
use Rattle.eo_session.specs.Deciding.{trees_in, EntryIsThere, HoldsItself, MayPut}
use Rattle.eo_session.specs.Store.{HoldsOnly, state_of}
use Rattle.eo_session.specs.declared.effects.Effect.{Effect}
use Rattle.eo_session.proofs.Alive.{now, own_mark}
use Rattle.eo_session.proofs.Assertions.{asserted_names}
use Rattle.eo_session.proofs.Decided.{fold_of_entry}
use Rattle.eo_session.proofs.Holding.{state_entry, whole_entry, state_macro, whole_macro, whole_fact, state_fact, whole_scope, whole_begun, state_begun}
use Rattle.eo_session.proofs.Reclaiming.{refit, settled_now, settled_sorry, whole_put_entry, whole_put_asserted, whole_put_none, whole_put_macro, whole_put_fact, whole_put_scope}
use Rattle.eo_session.proofs.Sessions.{not_taken}
use Rattle.eo_session.proofs.store.Store.put.Goals as goal

pub add_free-requires : goal.add_free-requires
add_free-requires c =
    let h = c.args.self.now in
    let name = c.in-Add.name.now in
    let may = subst (MayPut h) c.in-Add.is c.requires.may in
    record { free = λ ts. c.laws.ensures.names ts h.table.trees name ∙ (not_taken (is_reserved name) (is_live (state_of h).scopes name) may.free).1 }

pub put_asserted-requires-clause-whole : goal.put_asserted-requires-clause-whole
put_asserted-requires-clause-whole c = refit c.args.self.now _ c.requires.whole.store

pub put_asserted-requires-clause-new : goal.put_asserted-requires-clause-new
put_asserted-requires-clause-new c =
    let h = c.args.self.now in
    let may = subst (MayPut h) c.in-Assert.is c.requires.may in
    asserted_names (state_of h) (tree_in h.table c.in-Assert.formula) (named_terms_in h.table c.in-Assert.names) may.new

pub returns-in_ok-add-in-Declare-clause-settled : goal.returns-in_ok-add-in-Declare-clause-settled
returns-in_ok-add-in-Declare-clause-settled c =
    let h = c.args.self.now in
    let ts = h.table.trees in
    let d = c.in-Declare.d in
    let w = c.requires.whole.store in
    let may = subst (MayPut h) c.in-Declare.is c.requires.may in
    let itself = subst (HoldsItself h) c.in-Declare.is c.requires.itself in
    let only = subst (λ (e : Effect). HoldsOnly (trees_in h e) h) c.in-Declare.is c.requires.only in
    let told = c.in_ok-add-in-Declare.ensures in
    let sg = c.add.new.self in
    let e = read_entry ts d in
    let below = told.below (length ts) w.signature may.below in
    let store = whole_entry h w sg below e (told.adds ts) told.usable (fold_of_entry (signature ts h.signature) e may.sound) in
    let at = c.mark-self.ensures.mark in
    settled_now (record h { signature = sg }) _ at
    (whole_put_entry h c.requires.whole c.growth_law.ensures.stays (subst (IsMark h.table) at c.mark-self.ensures.holds) may.outside sg d told.kept store (state_entry h w sg below e (told.adds ts)) (λ x m is. subst (EntryIsThere h) is itself) only)

pub returns-in_ok-put_asserted-in-Assert-clause-settled : goal.returns-in_ok-put_asserted-in-Assert-clause-settled
returns-in_ok-put_asserted-in-Assert-clause-settled c =
    let h = c.args.self.now in
    let new = c.put_asserted.new.self in
    let t = tree_in h.table c.in-Assert.formula in
    let named_terms = named_terms_in h.table c.in-Assert.names in
    let may = subst (MayPut h) c.in-Assert.is c.requires.may in
    let only = subst (λ (e : Effect). HoldsOnly (trees_in h e) h) c.in-Assert.is c.requires.only in
    let told = c.in_ok-put_asserted-in-Assert.ensures in
    let at = c.mark-self.ensures.mark in
    settled_now new new.kept (told.kept ∙ at ∙ ap now (sym told.table))
    (whole_put_asserted h c.requires.whole c.growth_law.ensures.stays (subst (IsMark h.table) at c.mark-self.ensures.holds) (λ x y. (c.equality_law.ensures.trees x y).0) may.outside new told.whole told.table t named_terms told.updates only)

pub returns-in-Ok-clause-settled : goal.returns-in-Ok-clause-settled
returns-in-Ok-clause-settled c =
    let h = c.args.self.now in
    let ts = h.table.trees in
    let d = c.in-Define.d in
    let w = c.requires.whole.store in
    let may = subst (MayPut h) c.in-Define.is c.requires.may in
    let only = subst (λ (e : Effect). HoldsOnly (trees_in h e) h) c.in-Define.is c.requires.only in
    let told = c.in-Ok.ensures in
    let sg = c.define.new.self in
    let below = told.below (length ts) w.signature may.below in
    let store = whole_macro h w sg below (read_macro ts d) (told.adds ts) may.bound in
    let at = c.mark-self.ensures.mark in
    settled_now (record h { signature = sg }) _ at
    (whole_put_macro h c.requires.whole c.growth_law.ensures.stays (subst (IsMark h.table) at c.mark-self.ensures.holds) sg d told.kept store (state_macro h w sg below (read_macro ts d) (told.adds ts)) only)

pub returns-in_ok-add-in-Open-clause-settled : goal.returns-in_ok-add-in-Open-clause-settled
returns-in_ok-add-in-Open-clause-settled c =
    let h = c.args.self.now in
    let ts = h.table.trees in
    let w = c.requires.whole.store in
    let may = subst (MayPut h) c.in-Open.is c.requires.may in
    let only = subst (λ (e : Effect). HoldsOnly (trees_in h e) h) c.in-Open.is c.requires.only in
    let fs = c.push_free.new.self in
    let told = c.in_ok-push_free-in-Open.ensures in
    let below = told.below (length ts) w.facts may.value.live in
    let is = told.pushes ts in
    let marked : c.add-in-Open.new.self ≡ own_mark h ∷ h.marks = c.in_ok-add-in-Open.ensures.added ∙ ap (λ (n : ℕ). record { table = h.kept; macros = n } ∷ h.marks) c.mark-macros.ensures in
    let name = c.in-Open.name.now in
    let i = c.in-Open.hypothesis in
    let store = whole_scope h w fs below name i may.value.value is in
    let begun = whole_begun h w fs below name i may.value.value is c.add-in-Open.new.self marked in
    let st = state_begun h w fs below name i may.value.value is c.add-in-Open.new.self marked in
    let at = c.mark-self.ensures.mark in
    settled_now (record h { facts = fs; marks = c.add-in-Open.new.self }) _ at
    (whole_put_scope h c.requires.whole c.growth_law.ensures.stays (subst (IsMark h.table) at c.mark-self.ensures.holds) fs store (name, (i, h.commands)) told.kept c.add-in-Open.new.self marked begun st only)

pub returns-in_ok-add_free-in-Add-clause-settled : goal.returns-in_ok-add_free-in-Add-clause-settled
returns-in_ok-add_free-in-Add-clause-settled c =
    let h = c.args.self.now in
    let ts = h.table.trees in
    let w = c.requires.whole.store in
    let may = subst (MayPut h) c.in-Add.is c.requires.may in
    let only = subst (λ (e : Effect). HoldsOnly (trees_in h e) h) c.in-Add.is c.requires.only in
    let fs = c.add_free.new.self in
    let told = c.in_ok-add_free-in-Add.ensures in
    let below = told.below (length ts) w.facts may.value.live in
    let name = c.in-Add.name.now in
    let i = c.in-Add.conclusion.formula in
    let store = whole_fact h w fs below name i may.value.value (told.adds ts) in
    let st = state_fact h w fs below name i may.value.value (told.adds ts) in
    let at = c.mark-self.ensures.mark in
    let all = whole_put_fact h c.requires.whole c.growth_law.ensures.stays (subst (IsMark h.table) at c.mark-self.ensures.holds) fs store (name, (i, h.commands)) told.kept c.laws.ensures.begun st only in
    settled_sorry _ _ (settled_now (record h { facts = fs }) _ at all)

pub returns-in-Nothing-clause-settled : goal.returns-in-Nothing-clause-settled
returns-in-Nothing-clause-settled c =
    let h = c.args.self.now in
    let only = subst (λ (e : Effect). HoldsOnly (trees_in h e) h) c.in-Nothing.is c.requires.only in
    let at = c.mark-self.ensures.mark in
    settled_now h _ at
    (whole_put_none h c.requires.whole c.growth_law.ensures.stays (subst (IsMark h.table) at c.mark-self.ensures.holds) only)
