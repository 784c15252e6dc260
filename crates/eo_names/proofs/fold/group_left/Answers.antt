use Rattle.std.proofs.Common.{◌<◌, length, map, fold, sym, ◌∙◌, arith}
use Rattle.eo_base.proofs.Elements.{all_at}
use Rattle.eo_term.proofs.Growing.{grows_on}
use Rattle.eo_term.specs.Tree.{Tree, is_tall}
use Rattle.eo_term.specs.Terms.{tree_at}
use Rattle.eo_names.specs.Folding.{applied_to_two}
use Rattle.eo_names.proofs.FoldLemmas.{left_turn, left_tall, tall_left}
use Rattle.eo_names.proofs.fold.group_left.Goals as goal

pub apply_to_two-requires-clause-b : goal.apply_to_two-requires-clause-b
apply_to_two-requires-clause-b c =
    let live : c.a-item.result < length c.args.table.now.trees = all_at (λ j. j < length c.args.table.now.trees) c.args.args.now c.loop-a.a-index c.a-item.result c.requires.args (omega arith) c.a-item.is in
    omega (arith, live, c.loop-a.invariant.grows.now.more_trees)

pub returns-in_err-made-clause-gives : goal.returns-in_err-made-clause-gives
returns-in_err-made-clause-gives c =
    let ts = c.args.table.now.trees in
    let v = c.loop-a.invariant in
    let live : c.a-item.result < length ts = all_at (λ j. j < length ts) c.args.args.now c.loop-a.a-index c.a-item.result c.requires.args (omega arith) c.a-item.is in
    let f : Tree = tree_at ts c.args.f in
    let now : Tree = tree_at c.loop-a.table.trees c.loop-a.made in
    c.builds_law.ensures.term _ _ _ _ _ c.from_residual.ensures.1
    (λ h. left_tall (applied_to_two f) ts c.args.args.now (tall_left f) c.loop-a.a-index c.a-item.result now (applied_to_two f now (tree_at ts c.a-item.result)) (fold (applied_to_two f) (tree_at ts c.args.first) (map (tree_at ts) c.args.args.now)) (omega arith) c.a-item.is v.tree (λ k. applied_to_two f now (tree_at ts c.a-item.result))
    ((λ k. is_tall (applied_to_two (sym (v.grows.now.tree c.args.f c.requires.f) k) now (sym (v.grows.now.tree c.a-item.result live) k))) ∙ h)) c.in_err-made.ensures.gives

pub loop-a-preserved : goal.loop-a-preserved
loop-a-preserved c =
    let ts = c.args.table.now.trees in
    let v = c.loop-a.invariant in
    let live : c.a-item.result < length ts = all_at (λ j. j < length ts) c.args.args.now c.loop-a.a-index c.a-item.result c.requires.args (omega arith) c.a-item.is in
    let f : Tree = tree_at ts c.args.f in
    let now : Tree = tree_at c.loop-a.table.trees c.loop-a.made in
    record {
      live = c.in_ok-made.ensures.gives.live;
      grows = grows_on _ _ _ v.grows c.apply_to_two.ensures.grows;
      tree = left_turn (applied_to_two f) ts c.args.args.now c.loop-a.a-index c.a-item.result now _ (fold (applied_to_two f) (tree_at ts c.args.first) (map (tree_at ts) c.args.args.now)) (omega arith) c.a-item.is v.tree
          (c.in_ok-made.ensures.gives.tree ∙ (λ k. applied_to_two (v.grows.now.tree c.args.f c.requires.f k) now (v.grows.now.tree c.a-item.result live k)));
    }

pub returns-in_err-made-clause-grows : goal.returns-in_err-made-clause-grows
returns-in_err-made-clause-grows c = grows_on _ _ _ c.loop-a.invariant.grows c.apply_to_two.ensures.grows
