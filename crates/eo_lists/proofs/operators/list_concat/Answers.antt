use Rattle.std.proofs.Common.{ℕ, List, ◌++◌, Ok, sym, ap, ◌∙◌, subst}
use Rattle.std.specs.Prelude.{option_and_then}
use Rattle.eo_term.proofs.Growing.{grows_refl}
use Rattle.eo_term.specs.Terms.{tree_at}
use Rattle.eo_term.specs.Tree.{Tree}
use Rattle.eo_lists.specs.Lists.{as_list, on_list, spelled}
use Rattle.eo_lists.specs.Outcomes.{GivesList}
use Rattle.eo_lists.specs.Parts.{AreItems, Reads, put_in}
use Rattle.eo_lists.proofs.Put.{gives_found, put_is, nothing_behind}
use Rattle.eo_lists.proofs.operators.list_concat.Goals as goal

pub returns-then-is_same : goal.returns-then-is_same
returns-then-is_same c =
    let t = c.args.table.now in
    let f : Tree = tree_at t.trees c.args.form.now.fun in
    let n : Tree = tree_at t.trees c.args.form.now.end in
    record {
      gives = subst (GivesList t (Ok c.itself.result)) (sym (nothing_behind f n (tree_at t.trees c.args.first) (tree_at t.trees c.args.second) (c.is_same.ensures.tells.0 c.if-is_same.true)))
          (gives_found t c.itself.result _ c.itself.ensures);
      grows = grows_refl t;
    }

pub returns : goal.returns
returns c =
    let t = c.args.table.now in
    let f : Tree = tree_at t.trees c.args.form.now.fun in
    let n : Tree = tree_at t.trees c.args.form.now.end in
    let r : AreItems t c.args.form.now c.args.first c.in-Some.found = subst (Reads t c.args.form.now c.args.first) c.in-Some.is c.in_ok-found.ensures in
    record {
      gives = subst (GivesList c.put_items.new.table c.put_items.result)
          (sym (ap (option_and_then (λ (xs : List Tree). on_list f n (tree_at t.trees c.args.second) (λ ys. as_list f n (xs ++ ys)))) r.items ∙ put_is f n _ (spelled f n (tree_at t.trees c.args.second))))
          (subst (λ (is : List ℕ). GivesList c.put_items.new.table c.put_items.result (put_in t c.args.form.now is c.args.second)) c.as_slice.ensures c.put_items.ensures.gives);
      grows = c.put_items.ensures.grows;
    }
