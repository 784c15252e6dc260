use Rattle.std.proofs.Common.{◌<◌, length, map, fold, sym, ◌∙◌, arith}
use Rattle.eo_base.proofs.Elements.{all_at}
use Rattle.eo_term.specs.Tree.{Tree, is_tall}
use Rattle.eo_term.specs.Terms.{tree_at}
use Rattle.eo_lists.specs.Lists.{link}
use Rattle.eo_lists.specs.Parts.{onto}
use Rattle.eo_term.proofs.Growing.{grows_on}
use Rattle.eo_lists.proofs.Building.{onto_step, onto_step_tall}
use Rattle.eo_lists.proofs.build.build_reversed.Goals as goal

pub returns-in_err-made-clause-gives : goal.returns-in_err-made-clause-gives
returns-in_err-made-clause-gives c =
    let ts = c.args.table.now.trees in
    let v = c.loop-item.invariant in
    let a = c.item-item.result in
    let live : a < length ts = all_at (λ j. j < length ts) c.args.items.now c.loop-item.item-index a c.requires.items (omega arith) c.item-item.is in
    let f : Tree = tree_at ts c.args.fun in
    let now : Tree = tree_at c.loop-item.table.trees c.loop-item.made in
    let us = c.loop-item.table.trees in
    let whole : Tree = fold (onto f) (tree_at ts c.args.end) (map (tree_at ts) c.args.items.now) in
    c.builds_law.ensures.term _ _ whole _ _ c.from_residual.ensures.1
    (λ h. onto_step_tall f ts c.args.items.now c.loop-item.item-index a now (link f (tree_at ts a) now) whole (omega arith) c.item-item.is v.tree (λ k. link f (tree_at ts a) now)
    ((λ k. is_tall (link (sym (v.grows.now.tree c.args.fun c.requires.fun) k) (sym (v.grows.now.tree a live) k) now)) ∙ h)) c.in_err-made.ensures.gives

pub returns-in_err-made-clause-grows : goal.returns-in_err-made-clause-grows
returns-in_err-made-clause-grows c = grows_on _ _ _ c.loop-item.invariant.grows c.put_before.ensures.grows

pub loop-item-preserved : goal.loop-item-preserved
loop-item-preserved c =
    let ts = c.args.table.now.trees in
    let v = c.loop-item.invariant in
    let a = c.item-item.result in
    let live : a < length ts = all_at (λ j. j < length ts) c.args.items.now c.loop-item.item-index a c.requires.items (omega arith) c.item-item.is in
    let f : Tree = tree_at ts c.args.fun in
    let now : Tree = tree_at c.loop-item.table.trees c.loop-item.made in
    record {
      live = c.in_ok-made.ensures.gives.live;
      grows = grows_on _ _ _ v.grows c.put_before.ensures.grows;
      tree = onto_step f ts c.args.items.now c.loop-item.item-index a now _ (fold (onto f) (tree_at ts c.args.end) (map (tree_at ts) c.args.items.now)) (omega arith) c.item-item.is v.tree
          (c.in_ok-made.ensures.gives.tree ∙ (λ k. link (v.grows.now.tree c.args.fun c.requires.fun k) (v.grows.now.tree a live k) now));
    }
