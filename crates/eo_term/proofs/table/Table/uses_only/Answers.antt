use Rattle.std.proofs.Common.{ℕ, Bool, sym, ◌∙◌}
use Rattle.std.proofs.lemmas.Bool.Decides.{same_from_decides}
use Rattle.eo_term.specs.ParamSet.{has}
use Rattle.eo_term.specs.Tree.{Tree, uses_only}
use Rattle.eo_term.specs.Terms.{tree_at}
use Rattle.eo_term.proofs.ParamSets.{uses-known, known-uses}
use Rattle.eo_term.proofs.table.Table.uses_only.Goals as goal

pub returns : goal.returns
returns c =
    let known : ℕ → Bool = has c.args.known.now in
    let t : Tree = tree_at c.args.self.now.trees c.args.id in
    same_from_decides c.is_within.result (uses_only known t) (
      λ e. known-uses known t (λ i o. c.is_within.ensures.0 e i (c.parameters.ensures i ∙ o)),
      λ u. c.is_within.ensures.1 (λ i h. uses-known known t u i (sym (c.parameters.ensures i) ∙ h)),
    )
    (λ e. e, λ e. e)
