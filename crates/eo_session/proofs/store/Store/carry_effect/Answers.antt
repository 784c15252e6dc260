use Rattle.std.proofs.Common.{◌≡◌, sym, subst, ap, ◌∙◌}
use Rattle.std.proofs.Math.Path.{transport}
use Rattle.eo_elab.specs.Worlds.{named_terms_in}
use Rattle.eo_term.specs.Growth.{tree_in}
use Rattle.eo_session.specs.Asserting.{MayBeNames}
use Rattle.eo_session.specs.Effects.{Asserts}
use Rattle.eo_session.specs.State.{is_in_scope}
use Rattle.eo_session.specs.Deciding.{trees_in, read_effect, MayPut}
use Rattle.eo_session.specs.Store.{Leaves}
use Rattle.eo_session.specs.declared.effects.Effect.{Effect}
use Rattle.eo_session.proofs.Reclaiming.{settled_leaves}
use Rattle.eo_session.proofs.store.Store.carry_effect.Goals as goal

pub returns-in-Nothing-clause-leaves : goal.returns-in-Nothing-clause-leaves
returns-in-Nothing-clause-leaves c =
    let h = c.args.self.now in
    subst (λ (e : Effect). Leaves h (trees_in h e) c.release.new.self) (sym c.in-Nothing.is)
    (settled_leaves h c.release.new.self c.release.ensures.settled c.release.ensures.same c.release.ensures.signature)

pub returns-in_ok-formula-in-Assert-clause-read : goal.returns-in_ok-formula-in-Assert-clause-read
returns-in_ok-formula-in-Assert-clause-read c =
    let h = c.args.self.now in
    let t = c.carry_named.new.self.table in
    let told = c.in_ok-formula-in-Assert.ensures in
    subst (λ (e : Effect). Asserts (tree_in t c.in_ok-formula-in-Assert.formula) (named_terms_in t c.carry_named.new.names) ≡ read_effect h.table e) (sym c.in-Assert.is)
    (λ i. Asserts (told.value.tree i) (told.names i))

pub returns-in_ok-formula-in-Assert-clause-may : goal.returns-in_ok-formula-in-Assert-clause-may
returns-in_ok-formula-in-Assert-clause-may c =
    let h = c.args.self.now in
    let told = c.in_ok-formula-in-Assert.ensures in
    let may = subst (MayPut h) c.in-Assert.is c.requires.may in
    record {
      live = told.value.live;
      below = told.below;
      new = transport (λ i. MayBeNames (sym told.leaves.same i) (sym told.names i)) may.new;
      outside = ap is_in_scope told.leaves.same ∙ may.outside;
    }
