use Rattle.std.proofs.Common.{Bool, ◌&&◌, sym, ap, ◌∙◌}
use Rattle.eo_term.specs.Tree.{tree_eq}
use Rattle.eo_term.specs.Terms.{tree_at}
use Rattle.eo_names.proofs.locals.LocalName.is_list_at.Goals as goal

pub returns : goal.returns
returns c =
    let a = tree_at c.args.table.now.trees c.args.self.now.id in
    let b = tree_at c.args.table.now.trees c.args.id in
    c.is_same.ensures.equals ∙ ap (λ (l : Bool). l && tree_eq a b) (sym c.if-not-self.false)
