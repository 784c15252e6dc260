use Rattle.std.proofs.Common.{◌≡◌, ◌<◌, ℕ, List, Some, All, length, map, nat_eq, sym, ap, ◌∙◌, subst, rules}
use Rattle.std.specs.Prelude.{option_and_then}
use Rattle.eo_term.proofs.Growing.{grows_refl}
use Rattle.eo_term.specs.Terms.{tree_at}
use Rattle.eo_term.specs.Tree.{Tree, tree_eq}
use Rattle.eo_lists.specs.Lists.{set_of, spell}
use Rattle.eo_lists.specs.Outcomes.{GivesList}
use Rattle.eo_term.specs.Builds.{Builds}
use Rattle.eo_lists.specs.Parts.{AreItems, Reads}
use Rattle.eo_lists.proofs.Firsts.{all_set_of, set_of_trees}
use Rattle.eo_lists.proofs.operators.list_setof.Goals as goal

pub build-made-requires-clause-items : goal.build-made-requires-clause-items
build-made-requires-clause-items c =
    let t = c.args.table.now in
    let P : ℕ → Type 0 = λ j. j < length t.trees in
    let is : List ℕ = c.in-Some.found in
    let r : AreItems t c.args.form.now c.args.list is = subst (Reads t c.args.form.now c.args.list) c.in-Some.is c.in_ok-found.ensures in
    let first : c.as_slice-2.result.now ≡ set_of nat_eq is = c.as_slice-2.ensures.keys ∙ c.in_ok-first.ensures ∙ ap (set_of nat_eq) c.as_slice.ensures in
    subst (All P) (sym first) (all_set_of nat_eq P is r.live)

pub returns : goal.returns
returns c =
    let t = c.args.table.now in
    let new = c.build-made.new.table in
    let f : Tree = tree_at t.trees c.args.form.now.fun in
    let n : Tree = tree_at t.trees c.args.form.now.end in
    let is : List ℕ = c.in-Some.found in
    let r : AreItems t c.args.form.now c.args.list is = subst (Reads t c.args.form.now c.args.list) c.in-Some.is c.in_ok-found.ensures in
    let first : c.as_slice-2.result.now ≡ set_of nat_eq is = c.as_slice-2.ensures.keys ∙ c.in_ok-first.ensures ∙ ap (set_of nat_eq) c.as_slice.ensures in
    let made : Builds new c.build-made.result (spell f n (map (tree_at t.trees) (set_of nat_eq is))) =
    subst (λ (js : List ℕ). Builds new c.build-made.result (spell f n (map (tree_at t.trees) js))) first c.build-made.ensures.gives in
    record {
      gives = subst (GivesList new c.answer.result)
          (sym (ap (option_and_then (λ (zs : List Tree). Some (spell f n (set_of tree_eq zs)))) r.items ∙ ap (λ us. Some (spell f n us)) (set_of_trees t.trees c.laws.ensures.equals is r.live)))
          (c.answer.ensures new (spell f n (map (tree_at t.trees) (set_of nat_eq is))) made);
      grows = c.build-made.ensures.grows;
    }

pub returns-in_default : goal.returns-in_default
returns-in_default c =
    let t = c.args.table.now in
    let f : Tree = tree_at t.trees c.args.form.now.fun in
    let n : Tree = tree_at t.trees c.args.form.now.end in
    record {
      gives = ap (option_and_then (λ (zs : List Tree). Some (spell f n (set_of tree_eq zs)))) (subst (Reads t c.args.form.now c.args.list) c.in_default.is c.in_ok-found.ensures);
      grows = grows_refl c.args.table.now;
    }

pub returns-in_err-found : goal.returns-in_err-found
returns-in_err-found c =
    record { gives = search rules; grows = grows_refl c.args.table.now }

pub returns-in_err-first : goal.returns-in_err-first
returns-in_err-first c =
    record { gives = search rules; grows = grows_refl c.args.table.now }
