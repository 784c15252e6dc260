use Rattle.std.proofs.Common.{◌<◌, ◌-◌, length, refl, sym, ◌∙◌, arith}
use Rattle.eo_base.proofs.Elements.{all_at}
use Rattle.eo_term.proofs.Growing.{grows_on}
use Rattle.eo_term.specs.Tree.{Tree, is_tall}
use Rattle.eo_term.specs.Terms.{tree_at}
use Rattle.eo_names.specs.Folding.{applied_to_two, right}
use Rattle.eo_names.proofs.FoldLemmas.{right_step, right_step_tall, tall_right}
use Rattle.eo_names.proofs.fold.group_right.Goals as goal

pub returns-in_err-made-clause-gives : goal.returns-in_err-made-clause-gives
returns-in_err-made-clause-gives c =
    let ts = c.args.table.now.trees in
    let f : Tree = tree_at ts c.args.f in
    let v = c.loop-left.invariant in
    let i = c.loop-left.left - 1 in
    let a = c.index-args-left-in-loop-left.result in
    let live : a < length ts = all_at (λ j. j < length ts) c.args.args.now i a c.requires.args (omega (arith, v.within)) c.index-args-left-in-loop-left.is in
    let same = v.grows.now.tree in
    c.builds_law.ensures.term _ _ _ _ _ c.from_residual.ensures.1
    (λ h. right_step_tall (right f) (applied_to_two f) (λ x y us. refl) (tall_right f) ts c.args.args.now i c.loop-left.left a (tree_at c.loop-left.table.trees c.loop-left.made) (omega (arith, c.loop-left-test.true)) v.within c.index-args-left-in-loop-left.is v.tree
    ((λ k. is_tall (applied_to_two (sym (same c.args.f c.requires.f) k) (sym (same a live) k) (tree_at c.loop-left.table.trees c.loop-left.made))) ∙ h)) c.in_err-made.ensures.gives

pub loop-left-preserved : goal.loop-left-preserved
loop-left-preserved c =
    let ts = c.args.table.now.trees in
    let f : Tree = tree_at ts c.args.f in
    let v = c.loop-left.invariant in
    let i = c.loop-left.left - 1 in
    let a = c.index-args-left-in-loop-left.result in
    let live : a < length ts = all_at (λ j. j < length ts) c.args.args.now i a c.requires.args (omega (arith, v.within)) c.index-args-left-in-loop-left.is in
    let same = v.grows.now.tree in
    record {
      within = omega (arith, v.within);
      live = c.in_ok-made.ensures.gives.live;
      grows = grows_on _ _ _ v.grows c.apply_to_two.ensures.grows;
      tree = c.in_ok-made.ensures.gives.tree ∙ (λ k. applied_to_two (same c.args.f c.requires.f k) (same a live k) (tree_at c.loop-left.table.trees c.loop-left.made))
          ∙ right_step (right f) (applied_to_two f) (λ x y us. refl) (tall_right f) ts c.args.args.now i c.loop-left.left a (tree_at c.loop-left.table.trees c.loop-left.made) (omega (arith, c.loop-left-test.true)) v.within c.index-args-left-in-loop-left.is v.tree;
    }

pub returns-in_err-made-clause-grows : goal.returns-in_err-made-clause-grows
returns-in_err-made-clause-grows c = grows_on _ _ _ c.loop-left.invariant.grows c.apply_to_two.ensures.grows
