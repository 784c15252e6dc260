use Rattle.std.proofs.Common.{◌∙◌, ap, sym, rules}
use Rattle.eo_base.proofs.Tests.{same_tests}
use Rattle.eo_term.specs.Terms.{tree_at}
use Rattle.eo_term.specs.Tree.{tree_eq}
use Rattle.eo_term.proofs.Equality.{tree_same, tree_refl}
use Rattle.eo_term.proofs.table.Table.is_same.Goals as goal

-- what `equals` follows from
pub returns-clause-tells : goal.returns-clause-tells
returns-clause-tells c = search rules

pub returns-clause-equals : goal.returns-clause-equals
returns-clause-equals c =
    let e = returns-clause-tells c in
    let a = tree_at c.args.self.now.trees c.args.a in
    same_tests _ (tree_eq a (tree_at c.args.self.now.trees c.args.b)) (λ h. ap (tree_eq a) (sym (e.0 h)) ∙ tree_refl a) (λ h. e.1 (tree_same a _ h))
