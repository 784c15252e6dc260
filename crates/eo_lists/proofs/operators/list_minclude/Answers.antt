use Rattle.std.proofs.Common.{ℕ, List, Some, map, nat_eq, sym, ap, ◌∙◌, subst, rules}
use Rattle.std.specs.Prelude.{option_and_then}
use Rattle.eo_term.proofs.Growing.{grows_refl}
use Rattle.eo_term.specs.Terms.{tree_at}
use Rattle.eo_term.specs.Tree.{Tree, tree_eq, truth}
use Rattle.eo_lists.specs.Lists.{includes, spelled}
use Rattle.eo_lists.specs.Parts.{AreItems, Reads}
use Rattle.eo_lists.proofs.ById.{includes_trees}
use Rattle.eo_lists.proofs.operators.list_minclude.Goals as goal

pub returns : goal.returns
returns c =
    let t = c.args.table.now in
    let f : Tree = tree_at t.trees c.args.form.now.fun in
    let n : Tree = tree_at t.trees c.args.form.now.end in
    let is : List ℕ = c.in-Some.there in
    let js : List ℕ = c.in-Some-2.wanted in
    let xs : List Tree = map (tree_at t.trees) is in
    let r : AreItems t c.args.form.now c.args.first is = subst (Reads t c.args.form.now c.args.first) c.in-Some.is c.in_ok-there.ensures in
    let q : AreItems t c.args.form.now c.args.second js = subst (Reads t c.args.form.now c.args.second) c.in-Some-2.is c.in_ok-wanted.ensures in
    record {
      gives = record {
        live = c.truth_value.ensures.live;
        value = ap (option_and_then (λ (zs : List Tree). option_and_then (λ (us : List Tree). Some (truth (includes tree_eq zs us))) (spelled f n (tree_at t.trees c.args.second)))) r.items
            ∙ ap (option_and_then (λ (us : List Tree). Some (truth (includes tree_eq xs us)))) q.items
            ∙ ap (λ b. Some (truth b)) (includes_trees t.trees c.laws.ensures.equals is js r.live q.live ∙ (λ k. includes nat_eq (sym c.as_slice.ensures k) (sym c.as_slice-2.ensures k)) ∙ sym c.in_ok-holds.ensures)
            ∙ ap Some (sym c.truth_value.ensures.tree);
      };
      grows = grows_refl c.args.table.now;
    }

pub returns-in_default : goal.returns-in_default
returns-in_default c =
    let t = c.args.table.now in
    let f : Tree = tree_at t.trees c.args.form.now.fun in
    let n : Tree = tree_at t.trees c.args.form.now.end in
    record {
      gives = ap (option_and_then (λ (zs : List Tree). option_and_then (λ (us : List Tree). Some (truth (includes tree_eq zs us))) (spelled f n (tree_at t.trees c.args.second))))
          (subst (Reads t c.args.form.now c.args.first) c.in_default.is c.in_ok-there.ensures);
      grows = grows_refl c.args.table.now;
    }

pub returns-in_default-2 : goal.returns-in_default-2
returns-in_default-2 c =
    let t = c.args.table.now in
    let f : Tree = tree_at t.trees c.args.form.now.fun in
    let n : Tree = tree_at t.trees c.args.form.now.end in
    let is : List ℕ = c.in-Some.there in
    let xs : List Tree = map (tree_at t.trees) is in
    let r : AreItems t c.args.form.now c.args.first is = subst (Reads t c.args.form.now c.args.first) c.in-Some.is c.in_ok-there.ensures in
    record {
      gives = ap (option_and_then (λ (zs : List Tree). option_and_then (λ (us : List Tree). Some (truth (includes tree_eq zs us))) (spelled f n (tree_at t.trees c.args.second)))) r.items
          ∙ ap (option_and_then (λ (us : List Tree). Some (truth (includes tree_eq xs us)))) (subst (Reads t c.args.form.now c.args.second) c.in_default-2.is c.in_ok-wanted.ensures);
      grows = grows_refl c.args.table.now;
    }

pub returns-in_err-there : goal.returns-in_err-there
returns-in_err-there c =
    record { gives = search rules; grows = grows_refl c.args.table.now }

pub returns-in_err-wanted : goal.returns-in_err-wanted
returns-in_err-wanted c =
    record { gives = search rules; grows = grows_refl c.args.table.now }

pub returns-in_err-holds : goal.returns-in_err-holds
returns-in_err-holds c =
    record { gives = search rules; grows = grows_refl c.args.table.now }
