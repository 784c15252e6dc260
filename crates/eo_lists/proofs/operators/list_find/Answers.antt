use Rattle.std.proofs.Common.{List, Some, nat_eq, position, sym, ap, ◌∙◌, subst}
use Rattle.std.specs.Prelude.{option_and_then}
use Rattle.eo_term.specs.Terms.{tree_at}
use Rattle.eo_term.specs.Tree.{Tree, Num}
use Rattle.eo_lists.specs.Lists.{place_in, place_or_none}
use Rattle.eo_lists.specs.Outcomes.{GivesList}
use Rattle.eo_lists.specs.Parts.{AreItems, Reads}
use Rattle.eo_lists.proofs.ById.{position_trees}
use Rattle.eo_lists.proofs.operators.list_find.Goals as goal

pub returns-in-Some-place_of : goal.returns-in-Some-place_of
returns-in-Some-place_of c =
    let t = c.args.table.now in
    let r : AreItems t c.args.form.now c.args.list c.in-Some.found = subst (Reads t c.args.form.now c.args.list) c.in-Some.is c.in_ok-found.ensures in
    record {
      gives = subst (GivesList c.count.new.table c.count.result)
          (sym (ap (option_and_then (λ (xs : List Tree). Some (Num (place_in (tree_at t.trees c.args.item) xs)))) r.items
          ∙ ap (λ o. Some (Num (place_or_none o))) (position_trees t.trees c.laws.ensures.equals c.args.item c.requires.item c.in-Some.found r.live ∙ ap (position (nat_eq c.args.item)) (sym c.as_slice.ensures) ∙ sym c.in-Some-place_of.ensures)))
          c.count.ensures.gives;
      grows = c.count.ensures.grows;
    }

pub returns : goal.returns
returns c =
    let t = c.args.table.now in
    let r : AreItems t c.args.form.now c.args.list c.in-Some.found = subst (Reads t c.args.form.now c.args.list) c.in-Some.is c.in_ok-found.ensures in
    record {
      gives = subst (GivesList c.number.new.table c.number.result)
          (sym (ap (option_and_then (λ (xs : List Tree). Some (Num (place_in (tree_at t.trees c.args.item) xs)))) r.items
          ∙ ap (λ o. Some (Num (place_or_none o))) (position_trees t.trees c.laws.ensures.equals c.args.item c.requires.item c.in-Some.found r.live ∙ ap (position (nat_eq c.args.item)) (sym c.as_slice.ensures) ∙ sym c.in-None.ensures)))
          c.number.ensures.gives;
      grows = c.number.ensures.grows;
    }
