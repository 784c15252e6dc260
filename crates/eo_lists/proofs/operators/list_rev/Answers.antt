use Rattle.std.proofs.Common.{ℕ, List, Some, map, fold, reverse, sym, ap, ◌∙◌, subst}
use Rattle.std.specs.Prelude.{option_and_then}
use Rattle.eo_term.specs.Terms.{tree_at}
use Rattle.eo_term.specs.Tree.{Tree}
use Rattle.eo_lists.specs.Lists.{spell}
use Rattle.eo_lists.specs.Outcomes.{GivesList}
use Rattle.eo_term.specs.Builds.{Builds}
use Rattle.eo_lists.specs.Parts.{AreItems, Reads, onto}
use Rattle.eo_lists.proofs.Building.{fold_reverse}
use Rattle.eo_lists.proofs.operators.list_rev.Goals as goal

pub returns : goal.returns
returns c =
    let t = c.args.table.now in
    let new = c.build_reversed-made.new.table in
    let f : Tree = tree_at t.trees c.args.form.now.fun in
    let n : Tree = tree_at t.trees c.args.form.now.end in
    let xs : List Tree = map (tree_at t.trees) c.in-Some.found in
    let r : AreItems t c.args.form.now c.args.list c.in-Some.found = subst (Reads t c.args.form.now c.args.list) c.in-Some.is c.in_ok-found.ensures in
    let made : Builds new c.build_reversed-made.result (fold (onto f) n xs) =
    subst (λ (is : List ℕ). Builds new c.build_reversed-made.result (fold (onto f) n (map (tree_at t.trees) is))) c.as_slice.ensures c.build_reversed-made.ensures.gives in
    record {
      gives = subst (GivesList new c.answer.result) (sym (ap (option_and_then (λ zs. Some (spell f n (reverse zs)))) r.items ∙ ap Some (sym (fold_reverse f n xs))))
          (c.answer.ensures new (fold (onto f) n xs) made);
      grows = c.build_reversed-made.ensures.grows;
    }
