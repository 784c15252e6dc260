use Rattle.std.proofs.Common.{not, sym, ap, ◌∙◌}
use Rattle.std.specs.Prelude.{◌&&◌}
use Rattle.eo_proof.specs.Scopes.{is_free_outside}
use Rattle.eo_session.specs.Store.{state_of}
use Rattle.eo_session.proofs.store.Store.is_free_outside.Goals as goal

pub returns-then-not-is_reserved : goal.returns-then-not-is_reserved
returns-then-not-is_reserved c =
    let h = c.args.self.now in
    c.is_free_outside.ensures h.table.trees
    ∙ ap (λ b. not b && is_free_outside (state_of h).scopes c.args.name.now) (sym (sym c.is_reserved.ensures ∙ c.if-not-is_reserved.true))
