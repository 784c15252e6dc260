use Rattle.std.proofs.Common.{◌≡◌, ◌+◌, ◌<◌, List, [], ◌∷◌, ◌++◌, length, map, All, drop, sym, subst, ◌∙◌, arith}
use Rattle.std.proofs.lemmas.Result.{err_from_is_err_and}
use Rattle.eo_term.proofs.Growing.{grows_on}
use Rattle.eo_term.specs.Tree.{Tree, is_tall}
use Rattle.eo_term.specs.Terms.{tree_at}
use Rattle.eo_names.specs.Folding.{applied_to_two}
use Rattle.eo_base.proofs.Elements.{push_below, all_at}
use Rattle.eo_names.proofs.JoinLemmas.{push_grown, one_more, map_turn, map_tall}
use Rattle.eo_names.proofs.joins.add_pairs.Goals as goal

pub returns-in_err-pair-clause-adds : goal.returns-in_err-pair-clause-adds
returns-in_err-pair-clause-adds c =
    let ts = c.args.table.now.trees in
    let v = c.loop-b.invariant in
    let b = c.b-item.result in
    let live : b < length ts = all_at (λ j. j < length ts) c.args.others.now c.loop-b.b-index b c.requires.others (omega arith) c.b-item.is in
    let e = err_from_is_err_and c.from_residual.result c.from_residual.ensures.1 in
    rw (e.1, e.2)
    (c.builds_law.ensures.taller c.in_err-pair.field-0.0 _ _ (λ h. map_tall (applied_to_two (tree_at ts c.args.f) (tree_at ts c.args.a)) ts c.args.others.now c.loop-b.b-index b (omega arith) c.b-item.is
    ((λ k. is_tall (applied_to_two (sym (v.grows.now.tree c.args.f c.requires.f) k) (sym (v.grows.now.tree c.args.a c.requires.a) k) (sym (v.grows.now.tree b live) k))) ∙ h)) c.in_err-pair.ensures.gives)

pub loop-b-preserved : goal.loop-b-preserved
loop-b-preserved c =
    let ts = c.args.table.now.trees in
    let v = c.loop-b.invariant in
    let b = c.b-item.result in
    let live : b < length ts = all_at (λ j. j < length ts) c.args.others.now c.loop-b.b-index b c.requires.others (omega arith) c.b-item.is in
    let f : Tree = tree_at ts c.args.f in
    let a : Tree = tree_at ts c.args.a in
    let t : Tree = applied_to_two f a (tree_at ts b) in
    let now = c.loop-b.table.trees in
    let next = c.apply_to_two.new.table.trees in
    let g = c.apply_to_two.ensures.grows.now in
    let own : tree_at next c.in_ok-pair.pair ≡ t = c.in_ok-pair.ensures.gives.tree ∙ (λ k. applied_to_two (v.grows.now.tree c.args.f c.requires.f k) (v.grows.now.tree c.args.a c.requires.a k) (v.grows.now.tree b live k)) in
    let rest : List Tree = map (applied_to_two f a) (map (tree_at ts) (drop (c.loop-b.b-index + 1) c.args.others.now)) in
    let pushed : c.push.new.self ≡ c.loop-b.made ++ c.in_ok-pair.pair ∷ [] = c.in_ok-push.ensures.pushed in
    record {
      live = subst (All (λ i. i < length next)) (sym pushed) (push_below (length now) (length next) c.in_ok-pair.pair c.loop-b.made g.more_trees c.in_ok-pair.ensures.gives.live v.live);
      grows = grows_on _ _ _ v.grows c.apply_to_two.ensures.grows;
      trees = (λ k. map (tree_at next) (pushed k) ++ rest)
          ∙ (λ k. push_grown (length now) now next g.tree c.loop-b.made c.in_ok-pair.pair t v.live own k ++ rest)
          ∙ one_more (map (tree_at now) c.loop-b.made) t rest _
          ((λ k. map (tree_at now) c.loop-b.made ++ sym (map_turn (applied_to_two f a) ts c.args.others.now c.loop-b.b-index b (omega arith) c.b-item.is) k) ∙ v.trees);
    }

pub returns-in_err-pair-clause-grows : goal.returns-in_err-pair-clause-grows
returns-in_err-pair-clause-grows c = grows_on _ _ _ c.loop-b.invariant.grows c.apply_to_two.ensures.grows

pub returns-in_err-push-clause-grows : goal.returns-in_err-push-clause-grows
returns-in_err-push-clause-grows c = grows_on _ _ _ c.loop-b.invariant.grows c.apply_to_two.ensures.grows

pub apply_to_two-requires-clause-f : goal.apply_to_two-requires-clause-f
apply_to_two-requires-clause-f c = omega (arith, c.requires.f, c.loop-b.invariant.grows.now.more_trees)

pub apply_to_two-requires-clause-a : goal.apply_to_two-requires-clause-a
apply_to_two-requires-clause-a c = omega (arith, c.requires.a, c.loop-b.invariant.grows.now.more_trees)

pub apply_to_two-requires-clause-b : goal.apply_to_two-requires-clause-b
apply_to_two-requires-clause-b c =
    let n = length c.args.table.now.trees in
    let live : c.b-item.result < n = all_at (λ j. j < n) c.args.others.now c.loop-b.b-index c.b-item.result c.requires.others (omega arith) c.b-item.is in
    omega (arith, live, c.loop-b.invariant.grows.now.more_trees)
