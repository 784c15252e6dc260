use Rattle.std.proofs.Common.{◌<◌, ◌-◌, length, refl, sym, ◌∙◌, arith}
use Rattle.eo_base.proofs.Elements.{all_at}
use Rattle.eo_term.proofs.Growing.{grows_on}
use Rattle.eo_term.specs.Tree.{Tree, Arr, is_tall}
use Rattle.eo_term.specs.Terms.{tree_at}
use Rattle.eo_names.specs.Folding.{arrow}
use Rattle.eo_names.proofs.FoldLemmas.{right_step, right_step_tall, tall_values}
use Rattle.eo_names.proofs.arguments.arrow_or_leave.Goals as goal

pub returns-in_err-made-clause-gives : goal.returns-in_err-made-clause-gives
returns-in_err-made-clause-gives c =
    let ts = c.args.table.now.trees in
    let v = c.loop-left.invariant in
    let i = c.loop-left.left - 1 in
    let a = c.index-types-left-in-loop-left.result in
    let live : a < length ts = all_at (λ j. j < length ts) c.args.types.now i a c.requires.types (omega (arith, v.within)) c.index-types-left-in-loop-left.is in
    let now : Tree = tree_at c.loop-left.table.trees c.loop-left.made in
    c.builds_law.ensures.term _ _ _ _ _ c.from_residual.ensures.1 (λ h. h)
    (c.builds_law.ensures.tall c.in_err-made.field-0.0 _ (λ h. right_step_tall arrow Arr (λ x y us. refl) tall_values ts c.args.types.now i c.loop-left.left a now (omega (arith, c.loop-left-test.true)) v.within c.index-types-left-in-loop-left.is v.tree
    ((λ k. is_tall (Arr (sym (v.grows.now.tree a live) k) now)) ∙ c.in_err-made.ensures.tall.0 h)))

pub loop-left-preserved : goal.loop-left-preserved
loop-left-preserved c =
    let ts = c.args.table.now.trees in
    let v = c.loop-left.invariant in
    let i = c.loop-left.left - 1 in
    let a = c.index-types-left-in-loop-left.result in
    let live : a < length ts = all_at (λ j. j < length ts) c.args.types.now i a c.requires.types (omega (arith, v.within)) c.index-types-left-in-loop-left.is in
    let now : Tree = tree_at c.loop-left.table.trees c.loop-left.made in
    record {
      within = omega (arith, v.within);
      live = c.in_ok-made.ensures.interned.live;
      grows = grows_on _ _ _ v.grows c.intern.ensures.grows;
      tree = c.in_ok-made.ensures.interned.tree ∙ (λ k. Arr (v.grows.now.tree a live k) now)
          ∙ right_step arrow Arr (λ x y us. refl) tall_values ts c.args.types.now i c.loop-left.left a now (omega (arith, c.loop-left-test.true)) v.within c.index-types-left-in-loop-left.is v.tree;
    }

pub returns-in_err-made-clause-grows : goal.returns-in_err-made-clause-grows
returns-in_err-made-clause-grows c = grows_on _ _ _ c.loop-left.invariant.grows c.intern.ensures.grows
