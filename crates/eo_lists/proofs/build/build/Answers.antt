use Rattle.std.proofs.Common.{◌<◌, ◌-◌, length, map, sym, ◌∙◌, arith}
use Rattle.eo_base.proofs.Elements.{all_at}
use Rattle.eo_term.specs.Tree.{Tree, is_tall}
use Rattle.eo_term.specs.Terms.{tree_at}
use Rattle.eo_lists.specs.Lists.{link, spell}
use Rattle.eo_term.proofs.Growing.{grows_on}
use Rattle.eo_lists.proofs.Building.{spell_step, spell_step_tall}
use Rattle.eo_lists.proofs.build.build.Goals as goal

pub returns-in_err-made-clause-gives : goal.returns-in_err-made-clause-gives
returns-in_err-made-clause-gives c =
    let ts = c.args.table.now.trees in
    let f : Tree = tree_at ts c.args.fun in
    let v = c.loop-left.invariant in
    let i = c.loop-left.left - 1 in
    let a = c.index-items-left.result in
    let live : a < length ts = all_at (λ j. j < length ts) c.args.items.now i a c.requires.items (omega (arith, v.within, c.loop-left-test.true)) c.index-items-left.is in
    let same = v.grows.now.tree in
    let us = c.loop-left.table.trees in
    let whole : Tree = spell f (tree_at ts c.args.end) (map (tree_at ts) c.args.items.now) in
    c.builds_law.ensures.term _ _ whole _ _ c.from_residual.ensures.1
    (λ h. spell_step_tall f (tree_at ts c.args.end) ts c.args.items.now i c.loop-left.left a (tree_at c.loop-left.table.trees c.loop-left.made) (omega (arith, c.loop-left-test.true)) v.within c.index-items-left.is v.tree
    ((λ k. is_tall (link (sym (same c.args.fun c.requires.fun) k) (sym (same a live) k) (tree_at c.loop-left.table.trees c.loop-left.made))) ∙ h)) c.in_err-made.ensures.gives

pub returns-in_err-made-clause-grows : goal.returns-in_err-made-clause-grows
returns-in_err-made-clause-grows c = grows_on _ _ _ c.loop-left.invariant.grows c.put_before.ensures.grows

pub loop-left-preserved : goal.loop-left-preserved
loop-left-preserved c =
    let ts = c.args.table.now.trees in
    let f : Tree = tree_at ts c.args.fun in
    let v = c.loop-left.invariant in
    let i = c.loop-left.left - 1 in
    let a = c.index-items-left.result in
    let live : a < length ts = all_at (λ j. j < length ts) c.args.items.now i a c.requires.items (omega (arith, v.within, c.loop-left-test.true)) c.index-items-left.is in
    let same = v.grows.now.tree in
    record {
      within = omega (arith, v.within);
      live = c.in_ok-made.ensures.gives.live;
      grows = grows_on _ _ _ v.grows c.put_before.ensures.grows;
      tree = c.in_ok-made.ensures.gives.tree ∙ (λ k. link (same c.args.fun c.requires.fun k) (same a live k) (tree_at c.loop-left.table.trees c.loop-left.made))
          ∙ spell_step f (tree_at ts c.args.end) ts c.args.items.now i c.loop-left.left a (tree_at c.loop-left.table.trees c.loop-left.made) (omega (arith, c.loop-left-test.true)) v.within c.index-items-left.is v.tree;
    }
