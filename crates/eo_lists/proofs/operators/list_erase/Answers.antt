use Rattle.std.proofs.Common.{◌≡◌, ℕ, ◌++◌, ◌∷◌, [], true, false, List, map, sym, ap, ◌∙◌, subst, arith, rules, tests}
use Rattle.std.specs.Prelude.{None}
use Rattle.eo_term.proofs.Growing.{grows_refl}
use Rattle.eo_term.specs.Growth.{Grows}
use Rattle.eo_term.specs.Terms.{Terms, tree_at}
use Rattle.eo_term.specs.Tree.{Tree, tree_eq}
use Rattle.eo_lists.specs.Lists.{as_list, erase, on_list}
use Rattle.eo_lists.specs.Outcomes.{GivesList, IsTreeOf}
use Rattle.eo_lists.specs.Parts.{IsLink, put_in, spelled_in, unlinked}
use Rattle.eo_lists.proofs.Put.{erased_first, erased_none, erased_nowhere, stay_more}
use Rattle.eo_lists.proofs.Spell.{after_link, all_pushed, no_link}
use Rattle.eo_lists.proofs.operators.list_erase.Goals as goal

pub returns-in_default : goal.returns-in_default
returns-in_default c =
    let t = c.args.table.now in
    let f : Tree = tree_at t.trees c.args.form.now.fun in
    let n : Tree = tree_at t.trees c.args.form.now.end in
    let v = c.loop-item.invariant in
    let differs : tree_eq (tree_at t.trees c.loop-item.rest) n ≡ false =
    ap (λ (u : Terms). tree_eq (tree_at u.trees c.loop-item.rest) (tree_at u.trees c.args.form.now.end)) (sym v.same) ∙ sym c.is_same.ensures.equals ∙ search (rules, tests) in
    let ends : unlinked f (tree_at t.trees c.loop-item.rest) ≡ None = subst (λ (u : Terms). unlinked (tree_at u.trees c.args.form.now.fun) (tree_at u.trees c.loop-item.rest) ≡ None) v.same c.in_default.ensures in
    record {
      gives = erased_none f n (tree_at t.trees c.args.item) (map (tree_at t.trees) c.loop-item.front) v.stay (tree_at t.trees c.loop-item.rest) (spelled_in t c.args.form.now c.args.list) v.whole (no_link f n (tree_at t.trees c.loop-item.rest) differs ends);
      grows = subst (Grows c.args.table.now) (sym v.same) (grows_refl c.args.table.now);
    }

pub returns-then-is_same : goal.returns-then-is_same
returns-then-is_same c =
    let t = c.args.table.now in
    let f : Tree = tree_at t.trees c.args.form.now.fun in
    let n : Tree = tree_at t.trees c.args.form.now.end in
    let a : Tree = tree_at t.trees c.args.item in
    let v = c.loop-item.invariant in
    let l : IsLink t c.args.form.now.fun c.loop-item.rest c.in-Some.link.item c.in-Some.link.rest = subst (λ (u : Terms). IsLink u c.args.form.now.fun c.loop-item.rest c.in-Some.link.item c.in-Some.link.rest) v.same c.in-Some.ensures in
    let differs : tree_eq (tree_at t.trees c.loop-item.rest) n ≡ false =
    ap (λ (u : Terms). tree_eq (tree_at u.trees c.loop-item.rest) (tree_at u.trees c.args.form.now.end)) (sym v.same) ∙ sym c.is_same.ensures.equals ∙ search (rules, tests) in
    let found : tree_eq a (tree_at t.trees c.in-Some.link.item) ≡ true =
    ap (λ (u : Terms). tree_eq (tree_at u.trees c.args.item) (tree_at u.trees c.in-Some.link.item)) (sym v.same) ∙ sym c.is_same-in-loop-item.ensures.equals ∙ c.if-is_same.true in
    record {
      gives = subst (GivesList c.put_items.new.table c.put_items.result)
          (sym (erased_first f n a (map (tree_at t.trees) c.loop-item.front) v.stay (tree_at t.trees c.in-Some.link.item) (tree_at t.trees c.in-Some.link.rest) (tree_at t.trees c.loop-item.rest) (spelled_in t c.args.form.now c.args.list) v.whole differs l.tree found))
          (subst (λ (is : List ℕ). GivesList c.put_items.new.table c.put_items.result (put_in t c.args.form.now is c.in-Some.link.rest)) c.as_slice.ensures
          (subst (λ (u : Terms). GivesList c.put_items.new.table c.put_items.result (put_in u c.args.form.now c.as_slice.result.now c.in-Some.link.rest)) v.same c.put_items.ensures.gives));
      grows = subst (λ (u : Terms). Grows u c.put_items.new.table) v.same c.put_items.ensures.grows;
    }

pub loop-item-preserved : goal.loop-item-preserved
loop-item-preserved c =
    let t = c.args.table.now in
    let ts = t.trees in
    let f : Tree = tree_at ts c.args.form.now.fun in
    let n : Tree = tree_at ts c.args.form.now.end in
    let a : Tree = tree_at ts c.args.item in
    let v = c.loop-item.invariant in
    let l : IsLink t c.args.form.now.fun c.loop-item.rest c.in-Some.link.item c.in-Some.link.rest = subst (λ (u : Terms). IsLink u c.args.form.now.fun c.loop-item.rest c.in-Some.link.item c.in-Some.link.rest) v.same c.in-Some.ensures in
    let differs : tree_eq (tree_at ts c.loop-item.rest) n ≡ false =
    ap (λ (u : Terms). tree_eq (tree_at u.trees c.loop-item.rest) (tree_at u.trees c.args.form.now.end)) (sym v.same) ∙ sym c.is_same.ensures.equals ∙ search (rules, tests) in
    let other : tree_eq a (tree_at ts c.in-Some.link.item) ≡ false =
    ap (λ (u : Terms). tree_eq (tree_at u.trees c.args.item) (tree_at u.trees c.in-Some.link.item)) (sym v.same) ∙ sym c.is_same-in-loop-item.ensures.equals ∙ c.if-is_same.false in
    let pushed : c.push.new.self ≡ c.loop-item.front ++ c.in-Some.link.item ∷ [] = c.in_ok-push.ensures.pushed in
    record {
      same = v.same;
      live = omega (arith, l.rest, v.live);
      front = all_pushed ts c.loop-item.front c.in-Some.link.item c.push.new.self v.front (omega (arith, l.item, v.live)) pushed;
      whole = after_link ts f n (tree_at ts c.loop-item.rest) (tree_at ts c.in-Some.link.rest) c.in-Some.link.item c.loop-item.front c.push.new.self _ v.whole differs l.tree pushed;
      stay = stay_more (tree_at ts) a c.in-Some.link.item c.loop-item.front c.push.new.self v.stay other pushed;
    }

pub returns : goal.returns
returns c =
    let t = c.args.table.now in
    let f : Tree = tree_at t.trees c.args.form.now.fun in
    let n : Tree = tree_at t.trees c.args.form.now.end in
    let a : Tree = tree_at t.trees c.args.item in
    let v = c.loop-item.invariant in
    let empty : tree_at t.trees c.loop-item.rest ≡ n =
    subst (λ (u : Terms). tree_at u.trees c.loop-item.rest ≡ tree_at u.trees c.args.form.now.end) v.same (c.is_same.ensures.tells.0 (search (rules, tests))) in
    record {
      gives = subst (λ (u : Terms). IsTreeOf u (on_list f n (tree_at t.trees c.args.list) (λ xs. as_list f n (erase tree_eq a xs))) c.args.list) (sym v.same)
          (record { live = c.requires.list.list; value = erased_nowhere f n a (map (tree_at t.trees) c.loop-item.front) v.stay (tree_at t.trees c.loop-item.rest) (tree_at t.trees c.args.list) v.whole empty });
      grows = subst (Grows c.args.table.now) (sym v.same) (grows_refl c.args.table.now);
    }
