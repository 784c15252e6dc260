use Rattle.std.proofs.Common.{◌<◌, length, map, ap, sym, ◌∙◌, arith}
use Rattle.eo_base.proofs.Elements.{all_at}
use Rattle.eo_term.proofs.Growing.{grows_on}
use Rattle.eo_term.specs.Tree.{Tree, App, is_tall}
use Rattle.eo_term.specs.Terms.{tree_at}
use Rattle.eo_names.specs.Folding.{applied}
use Rattle.eo_names.proofs.FoldLemmas.{tall_first, left_turn, left_tall}
use Rattle.eo_names.proofs.fold.apply_to_all.Goals as goal

pub apply-requires-clause-a : goal.apply-requires-clause-a
apply-requires-clause-a c =
    let live : c.a-item.result < length c.args.table.now.trees = all_at (λ j. j < length c.args.table.now.trees) c.args.args.now c.loop-a.a-index c.a-item.result c.requires.args (omega arith) c.a-item.is in
    omega (arith, live, c.loop-a.invariant.grows.now.more_trees)

pub returns-in_err-made-clause-gives : goal.returns-in_err-made-clause-gives
returns-in_err-made-clause-gives c =
    let ts = c.args.table.now.trees in
    let v = c.loop-a.invariant in
    let live : c.a-item.result < length ts = all_at (λ j. j < length ts) c.args.args.now c.loop-a.a-index c.a-item.result c.requires.args (omega arith) c.a-item.is in
    let now : Tree = tree_at c.loop-a.table.trees c.loop-a.made in
    c.builds_law.ensures.term _ _ _ _ _ c.from_residual.ensures.1
    (λ h. left_tall App ts c.args.args.now tall_first c.loop-a.a-index c.a-item.result now (App now (tree_at ts c.a-item.result)) (applied (tree_at ts c.args.f) (map (tree_at ts) c.args.args.now)) (omega arith) c.a-item.is v.tree (λ k. App now (tree_at ts c.a-item.result))
    (ap (λ u. is_tall (App now u)) (sym (v.grows.now.tree c.a-item.result live)) ∙ h)) c.in_err-made.ensures.gives

pub loop-a-preserved : goal.loop-a-preserved
loop-a-preserved c =
    let ts = c.args.table.now.trees in
    let v = c.loop-a.invariant in
    let live : c.a-item.result < length ts = all_at (λ j. j < length ts) c.args.args.now c.loop-a.a-index c.a-item.result c.requires.args (omega arith) c.a-item.is in
    let now : Tree = tree_at c.loop-a.table.trees c.loop-a.made in
    record {
      live = c.in_ok-made.ensures.gives.live;
      grows = grows_on _ _ _ v.grows c.apply.ensures.grows;
      tree = left_turn App ts c.args.args.now c.loop-a.a-index c.a-item.result now _ (applied (tree_at ts c.args.f) (map (tree_at ts) c.args.args.now)) (omega arith) c.a-item.is v.tree
          (c.in_ok-made.ensures.gives.tree ∙ ap (App now) (v.grows.now.tree c.a-item.result live));
    }

pub returns-in_err-made-clause-grows : goal.returns-in_err-made-clause-grows
returns-in_err-made-clause-grows c = grows_on _ _ _ c.loop-a.invariant.grows c.apply.ensures.grows
