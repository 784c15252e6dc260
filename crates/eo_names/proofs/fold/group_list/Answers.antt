use Rattle.std.proofs.Common.{◌<◌, ◌-◌, Bool, length, refl, sym, ◌∙◌, arith}
use Rattle.eo_base.proofs.Elements.{all_at}
use Rattle.eo_term.proofs.Growing.{grows_on}
use Rattle.eo_term.specs.Tree.{Tree, is_tall}
use Rattle.eo_term.specs.Terms.{tree_at}
use Rattle.eo_names.specs.Folding.{list_onto, right_nil}
use Rattle.eo_names.specs.Contexts.{is_list}
use Rattle.eo_names.specs.Names.{read_locals}
use Rattle.eo_names.specs.Scopes.{bound_in}
use Rattle.eo_names.proofs.FoldLemmas.{right_step, right_step_tall, list_last_tall, tall_onto, locals_grown, names_more}
use Rattle.eo_names.proofs.fold.group_list.Goals as goal

pub returns-in_err-made-clause-gives : goal.returns-in_err-made-clause-gives
returns-in_err-made-clause-gives c =
    let ts = c.args.table.now.trees in
    let il : Tree → Bool = is_list (read_locals ts (bound_in c.args.scope.now)) in
    c.builds_law.ensures.term _ _ _ _ _ c.from_residual.ensures.1
    (λ h. list_last_tall il (tree_at ts c.args.f) (tree_at ts c.args.nil) ts c.args.args.now (length c.args.args.now - 1) c.index-args-left.result (omega arith) c.index-args-left.is (h)) c.in_err-made.ensures.gives

pub onto_list-requires-clause-names : goal.onto_list-requires-clause-names
onto_list-requires-clause-names c = names_more (bound_in c.args.scope.now) (length c.args.table.now.trees) (length c.loop-left.table.trees) c.loop-left.invariant.grows.now.more_trees c.requires.names

pub returns-in_err-made-2-clause-gives : goal.returns-in_err-made-2-clause-gives
returns-in_err-made-2-clause-gives c =
    let ts = c.args.table.now.trees in
    let ls = bound_in c.args.scope.now in
    let il : Tree → Bool = is_list (read_locals ts ls) in
    let f : Tree = tree_at ts c.args.f in
    let v = c.loop-left.invariant in
    let now : Tree = tree_at c.loop-left.table.trees c.loop-left.made in
    let i = c.loop-left.left - 1 in
    let a = c.index-args-left-in-loop-left.result in
    let live : a < length ts = all_at (λ j. j < length ts) c.args.args.now i a c.requires.args (omega (arith, v.within)) c.index-args-left-in-loop-left.is in
    let same = v.grows.now.tree in
    let names = locals_grown ls ts c.loop-left.table.trees (length ts) c.requires.names same in
    c.builds_law.ensures.term _ _ _ _ _ c.from_residual-in_err-made-2.ensures.1
    (λ h. right_step_tall (right_nil il f (tree_at ts c.args.nil)) (λ x r. list_onto (il x) f x r) (λ x y us. refl) (λ x r. tall_onto (il x) f x r) ts c.args.args.now i c.loop-left.left a now (omega (arith, c.loop-left-test.true)) v.within c.index-args-left-in-loop-left.is v.tree
    ((λ k. is_tall (list_onto (is_list (sym names k) (sym (same a live) k)) (sym (same c.args.f c.requires.f) k) (sym (same a live) k) now)) ∙ h)) c.in_err-made-2.ensures.gives

pub loop-left-preserved : goal.loop-left-preserved
loop-left-preserved c =
    let ts = c.args.table.now.trees in
    let ls = bound_in c.args.scope.now in
    let il : Tree → Bool = is_list (read_locals ts ls) in
    let f : Tree = tree_at ts c.args.f in
    let v = c.loop-left.invariant in
    let now : Tree = tree_at c.loop-left.table.trees c.loop-left.made in
    let i = c.loop-left.left - 1 in
    let a = c.index-args-left-in-loop-left.result in
    let live : a < length ts = all_at (λ j. j < length ts) c.args.args.now i a c.requires.args (omega (arith, v.within)) c.index-args-left-in-loop-left.is in
    let same = v.grows.now.tree in
    let names = locals_grown ls ts c.loop-left.table.trees (length ts) c.requires.names same in
    record {
      within = omega (arith, v.within);
      live = c.in_ok-made-2.ensures.gives.live;
      grows = grows_on _ _ _ v.grows c.onto_list.ensures.grows;
      tree = c.in_ok-made-2.ensures.gives.tree ∙ (λ k. list_onto (is_list (names k) (same a live k)) (same c.args.f c.requires.f k) (same a live k) now)
          ∙ right_step (right_nil il f (tree_at ts c.args.nil)) (λ x r. list_onto (il x) f x r) (λ x y us. refl) (λ x r. tall_onto (il x) f x r) ts c.args.args.now i c.loop-left.left a now (omega (arith, c.loop-left-test.true)) v.within c.index-args-left-in-loop-left.is v.tree;
    }

pub returns-in_err-made-2-clause-grows : goal.returns-in_err-made-2-clause-grows
returns-in_err-made-2-clause-grows c = grows_on _ _ _ c.loop-left.invariant.grows c.onto_list.ensures.grows
