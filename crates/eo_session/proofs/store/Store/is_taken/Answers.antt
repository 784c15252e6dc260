use Rattle.std.proofs.Common.{not, sym, ap, ◌∙◌}
use Rattle.std.specs.Prelude.{◌&&◌}
use Rattle.eo_proof.specs.Scopes.{is_live}
use Rattle.eo_session.specs.Store.{state_of}
use Rattle.eo_session.proofs.store.Store.is_taken.Goals as goal

pub returns-else-is_reserved : goal.returns-else-is_reserved
returns-else-is_reserved c =
    let h = c.args.self.now in
    let name = c.args.name.now in
    ap not c.has_fact.ensures
    ∙ ap (λ b. not b && not (is_live (state_of h).scopes name)) (sym (sym c.is_reserved.ensures ∙ c.if-is_reserved.false))
