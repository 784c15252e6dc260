use Rattle.std.proofs.Common.{◌≡◌, ◌++◌, length, ap, sym, subst, ◌∙◌, rules}
use Rattle.eo_term.specs.Terms.{tree_at}
use Rattle.eo_names.specs.declared.scope.Scope.{the_lemmas}
use Rattle.eo_names.specs.Contexts.{is_list}
use Rattle.eo_names.specs.Names.{read_locals, AreBelow, bound_by}
use Rattle.eo_names.specs.Scopes.{bound_in}
use Rattle.eo_names.proofs.ScopeLemmas.{list_within, outside_below}
use Rattle.eo_names.proofs.scope.Scope.+is_list.Goals as goal

pub is_list-requires-in-Within : goal.is_list-requires-in-Within
is_list-requires-in-Within t c =
    let bs = bound_by c.in-Within.field-0.now in
    let ls = bound_in c.in-Within.around.now in
    let seen : bound_in c.args.self.now ≡ bs ++ ls = ap bound_in c.in-Within.is ∙ search (rules, the_lemmas) in
    (search (rules, the_lemmas), (c.requires.live, outside_below (length c.args.table.now.trees) bs ls (subst (AreBelow (length c.args.table.now.trees)) seen c.requires.below)))

pub returns-in-Within : goal.returns-in-Within
returns-in-Within t c =
    let ts = c.args.table.now.trees in
    let blocks = c.in-Within.field-0.now in
    let ls = bound_in c.in-Within.around.now in
    let seen : bound_in c.args.self.now ≡ bound_by blocks ++ ls = ap bound_in c.in-Within.is ∙ search (rules, the_lemmas) in
    c.is_list-in-Within.ensures ∙ sym (list_within ls ts (tree_at ts c.args.id) blocks) ∙ ap (λ xs. is_list (read_locals ts xs) (tree_at ts c.args.id)) (sym seen)
