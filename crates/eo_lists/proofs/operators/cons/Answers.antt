use Rattle.std.proofs.Common.{not, Some, is_some, sym, ap, ◌∙◌, subst}
use Rattle.std.specs.Prelude.{option_and_then}
use Rattle.eo_term.specs.Terms.{tree_at}
use Rattle.eo_term.specs.Tree.{Tree}
use Rattle.eo_lists.specs.Lists.{link, spell}
use Rattle.eo_lists.specs.Outcomes.{GivesList}
use Rattle.eo_lists.proofs.Spell.{spelled_by}
use Rattle.eo_lists.proofs.operators.cons.Goals as goal

pub returns : goal.returns
returns c =
    let t = c.args.table.now in
    let f : Tree = tree_at t.trees c.args.form.now.fun in
    let n : Tree = tree_at t.trees c.args.form.now.end in
    let a : Tree = tree_at t.trees c.args.item in
    let l : Tree = tree_at t.trees c.args.list in
    let q = spelled_by f n l (ap is_some (sym c.length_of.ensures) ∙ c.is_none.ensures ∙ ap not c.if-is_none.false) in
    record {
      gives = subst (GivesList c.put_before-made.new.table c.answer.result)
          (sym (ap (option_and_then (λ xs. Some (link f a (spell f n xs)))) q.1 ∙ ap (λ u. Some (link f a u)) q.2))
          (c.answer.ensures c.put_before-made.new.table (link f a l) c.put_before-made.ensures.gives);
      grows = c.put_before-made.ensures.grows;
    }
