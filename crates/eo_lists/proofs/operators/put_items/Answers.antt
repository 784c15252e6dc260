use Rattle.std.proofs.Common.{List, not, ◌++◌, Some, is_some, map, sym, ap, ◌∙◌, subst}
use Rattle.std.specs.Prelude.{option_map}
use Rattle.eo_term.specs.Terms.{tree_at}
use Rattle.eo_term.specs.Tree.{Tree}
use Rattle.eo_lists.specs.Lists.{spell}
use Rattle.eo_lists.specs.Outcomes.{GivesList}
use Rattle.eo_lists.proofs.Building.{spell_append}
use Rattle.eo_lists.proofs.Spell.{spelled_by}
use Rattle.eo_lists.proofs.operators.put_items.Goals as goal

pub returns-clause-gives : goal.returns-clause-gives
returns-clause-gives c =
    let t = c.args.table.now in
    let f : Tree = tree_at t.trees c.args.form.now.fun in
    let n : Tree = tree_at t.trees c.args.form.now.end in
    let s : Tree = tree_at t.trees c.args.list in
    let xs : List Tree = map (tree_at t.trees) c.args.items.now in
    let q = spelled_by f n s (ap is_some (sym c.length_of.ensures) ∙ c.is_none.ensures ∙ ap not c.if-is_none.false) in
    subst (GivesList c.build-made.new.table c.answer.result)
    (sym (ap (option_map (λ (us : List Tree). spell f n (xs ++ us))) q.1 ∙ ap Some (sym (spell_append f n xs q.0) ∙ ap (λ u. spell f u xs) q.2)))
    (c.answer.ensures c.build-made.new.table (spell f s xs) c.build-made.ensures.gives)
