use Rattle.std.proofs.Common.{◌≡◌, ℕ, Option, ap, sym, ◌∙◌}
use Rattle.std.specs.Prelude.{unwrap_or}
use Rattle.eo_session.proofs.store.Store.rule_named.Goals as goal

pub returns-in-Some : goal.returns-in-Some
returns-in-Some c = ap (λ (o : Option ℕ). unwrap_or o 0) (sym c.in-Some.is ∙ c.rule.ensures.named c.args.self.now.table.trees)

pub returns-in-None : goal.returns-in-None
returns-in-None c = ap (λ (o : Option ℕ). unwrap_or o 0) (sym c.in-None.is ∙ c.rule.ensures.named c.args.self.now.table.trees)
