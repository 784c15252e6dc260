use Rattle.std.proofs.Common.{◌≡◌, ◌+◌, ◌-◌, ◌<◌, List, [], ◌∷◌, ◌++◌, length, map, All, drop, sym, subst, ◌∙◌, arith}
use Rattle.eo_term.proofs.Growing.{grows_on}
use Rattle.eo_term.specs.Tree.{Tree, is_tall}
use Rattle.eo_term.specs.Terms.{tree_at}
use Rattle.eo_names.specs.Folding.{applied_to_two, links}
use Rattle.eo_base.proofs.Elements.{push_below, all_at}
use Rattle.eo_names.proofs.JoinLemmas.{push_grown, one_more, one_tall, all_made, link_at, no_link}
use Rattle.eo_names.proofs.joins.neighbours.Goals as goal

pub returns-in_err-link-clause-gives : goal.returns-in_err-link-clause-gives
returns-in_err-link-clause-gives c =
    let ts = c.args.table.now.trees in
    let v = c.loop-i.invariant in
    let i = c.loop-i.i in
    let args = c.args.args.now in
    let a = c.index-args-i.result in
    let b = c.index-args-i-in-loop-i.result in
    let f : Tree = tree_at ts c.args.f in
    let live_a : a < length ts = all_at (λ j. j < length ts) args (i - 1) a c.requires.args (omega arith) c.index-args-i.is in
    let live_b : b < length ts = all_at (λ j. j < length ts) args i b c.requires.args (omega arith) c.index-args-i-in-loop-i.is in
    let now = map (tree_at c.loop-i.table.trees) c.loop-i.made in
    let t : Tree = applied_to_two f (tree_at ts a) (tree_at ts b) in
    c.builds_law.ensures.terms _ _ _ _ _ c.from_residual.ensures.1
    (λ h. one_tall now t (links f (drop i (map (tree_at ts) args))) (links f (map (tree_at ts) args))
    ((λ k. now ++ sym (link_at f ts args i a b c.loop-i.auto.i (omega arith) c.index-args-i.is c.index-args-i-in-loop-i.is) k) ∙ v.trees)
    ((λ k. is_tall (applied_to_two (sym (v.grows.now.tree c.args.f c.requires.f) k) (sym (v.grows.now.tree a live_a) k) (sym (v.grows.now.tree b live_b) k))) ∙ h)) c.in_err-link.ensures.gives

pub loop-i-preserved : goal.loop-i-preserved
loop-i-preserved c =
    let ts = c.args.table.now.trees in
    let v = c.loop-i.invariant in
    let i = c.loop-i.i in
    let args = c.args.args.now in
    let a = c.index-args-i.result in
    let b = c.index-args-i-in-loop-i.result in
    let f : Tree = tree_at ts c.args.f in
    let live_a : a < length ts = all_at (λ j. j < length ts) args (i - 1) a c.requires.args (omega arith) c.index-args-i.is in
    let live_b : b < length ts = all_at (λ j. j < length ts) args i b c.requires.args (omega arith) c.index-args-i-in-loop-i.is in
    let t : Tree = applied_to_two f (tree_at ts a) (tree_at ts b) in
    let now = c.loop-i.table.trees in
    let next = c.apply_to_two.new.table.trees in
    let g = c.apply_to_two.ensures.grows.now in
    let own : tree_at next c.in_ok-link.link ≡ t = c.in_ok-link.ensures.gives.tree ∙ (λ k. applied_to_two (v.grows.now.tree c.args.f c.requires.f k) (v.grows.now.tree a live_a k) (v.grows.now.tree b live_b k)) in
    let rest : List Tree = links f (drop i (map (tree_at ts) args)) in
    let pushed : c.push.new.self ≡ c.loop-i.made ++ c.in_ok-link.link ∷ [] = c.in_ok-push.ensures.pushed in
    let back : i + 1 - 1 ≡ i = omega arith in
    record {
      live = subst (All (λ j. j < length next)) (sym pushed) (push_below (length now) (length next) c.in_ok-link.link c.loop-i.made g.more_trees c.in_ok-link.ensures.gives.live v.live);
      grows = grows_on _ _ _ v.grows c.apply_to_two.ensures.grows;
      trees = (λ k. map (tree_at next) (pushed k) ++ links f (drop (back k) (map (tree_at ts) args)))
          ∙ (λ k. push_grown (length now) now next g.tree c.loop-i.made c.in_ok-link.link t v.live own k ++ rest)
          ∙ one_more (map (tree_at now) c.loop-i.made) t rest (links f (map (tree_at ts) args))
          ((λ k. map (tree_at now) c.loop-i.made ++ sym (link_at f ts args i a b c.loop-i.auto.i (omega arith) c.index-args-i.is c.index-args-i-in-loop-i.is) k) ∙ v.trees);
    }

pub returns-clause-gives : goal.returns-clause-gives
returns-clause-gives c =
    let ts = c.args.table.now.trees in
    let args = c.args.args.now in
    let f : Tree = tree_at ts c.args.f in
    record {
      live = c.loop-i.invariant.live;
      trees = all_made (map (tree_at c.loop-i.table.trees) c.loop-i.made) (links f (drop (c.loop-i.i - 1) (map (tree_at ts) args))) (links f (map (tree_at ts) args)) (no_link f ts args c.loop-i.i (omega arith)) c.loop-i.invariant.trees;
    }

pub returns-in_err-link-clause-grows : goal.returns-in_err-link-clause-grows
returns-in_err-link-clause-grows c = grows_on _ _ _ c.loop-i.invariant.grows c.apply_to_two.ensures.grows
