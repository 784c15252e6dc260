use Rattle.std.proofs.Common.{◌+◌, ◌-◌, ◌<◌, List, ◌++◌, length, map, drop, ap, sym, append_assoc, ◌∙◌, arith}
use Rattle.std.specs.List.{list_any}
use Rattle.std.proofs.lemmas.List.Elements.{All-take, All-drop, All-weaker}
use Rattle.eo_base.proofs.Elements.{all_at}
use Rattle.eo_term.proofs.Growing.{grows_on}
use Rattle.eo_term.specs.Tree.{Tree, is_tall}
use Rattle.eo_term.specs.Terms.{tree_at}
use Rattle.eo_names.specs.Folding.{applied_to_two, all_pairs}
use Rattle.eo_names.proofs.JoinLemmas.{pairs_grown, pairs_at, pairs_tall}
use Rattle.eo_names.proofs.joins.pairs.Goals as goal

pub returns-in_err-add_pairs-clause-gives : goal.returns-in_err-add_pairs-clause-gives
returns-in_err-add_pairs-clause-gives c =
    let ts = c.args.table.now.trees in
    let v = c.loop-i.invariant in
    let i = c.loop-i.i in
    let args = c.args.args.now in
    let a = c.index-args-i.result in
    let f : Tree = tree_at ts c.args.f in
    let now = c.loop-i.table.trees in
    let live : a < length ts = all_at (λ j. j < length ts) args i a c.requires.args (omega arith) c.index-args-i.is in
    c.builds_law.ensures.terms _ _ _ _ _ c.from_residual.ensures.1
    (λ h. pairs_tall f ts args i a (map (tree_at now) c.loop-i.made) (omega arith) c.index-args-i.is v.trees
    (ap (list_any is_tall) (sym (pairs_grown (length ts) ts now v.grows.now.tree c.args.f a args (i + 1) c.requires.f live c.requires.args)) ∙ h)) c.in_err-add_pairs.ensures.adds

pub loop-i-preserved : goal.loop-i-preserved
loop-i-preserved c =
    let ts = c.args.table.now.trees in
    let v = c.loop-i.invariant in
    let i = c.loop-i.i in
    let args = c.args.args.now in
    let a = c.index-args-i.result in
    let f : Tree = tree_at ts c.args.f in
    let now = c.loop-i.table.trees in
    let live : a < length ts = all_at (λ j. j < length ts) args i a c.requires.args (omega arith) c.index-args-i.is in
    let made = map (tree_at now) c.loop-i.made in
    let rest : List Tree = all_pairs f (drop (i + 1) (map (tree_at ts) args)) in
    let new : List Tree = map (applied_to_two f (tree_at ts a)) (map (tree_at ts) (drop (i + 1) args)) in
    record {
      live = c.in_ok-add_pairs.ensures.adds.live;
      grows = grows_on _ _ _ v.grows c.add_pairs.ensures.grows;
      trees = ap (λ us. us ++ rest) (c.in_ok-add_pairs.ensures.adds.trees ∙ ap (λ us. made ++ us) (pairs_grown (length ts) ts now v.grows.now.tree c.args.f a args (i + 1) c.requires.f live c.requires.args))
          ∙ append_assoc made new rest ∙ (λ k. made ++ sym (pairs_at f ts args i a (omega arith) c.index-args-i.is) k) ∙ v.trees;
    }

pub add_pairs-requires-clause-others : goal.add_pairs-requires-clause-others
add_pairs-requires-clause-others c =
    let n = length c.args.table.now.trees in
    let m = length c.loop-i.table.trees in
    let args = c.args.args.now in
    let k = c.loop-i.i + 1 in
    All-take (λ j. j < m) (length args - k) (drop k args) (All-drop (λ j. j < m) k args (All-weaker (λ j. j < n) (λ j. j < m) (λ j q. omega (arith, q, c.loop-i.invariant.grows.now.more_trees)) args c.requires.args))

pub returns-in_err-add_pairs-clause-grows : goal.returns-in_err-add_pairs-clause-grows
returns-in_err-add_pairs-clause-grows c = grows_on _ _ _ c.loop-i.invariant.grows c.add_pairs.ensures.grows

pub add_pairs-requires-clause-f : goal.add_pairs-requires-clause-f
add_pairs-requires-clause-f c = omega (arith, c.requires.f, c.loop-i.invariant.grows.now.more_trees)

pub add_pairs-requires-clause-a : goal.add_pairs-requires-clause-a
add_pairs-requires-clause-a c =
    let n = length c.args.table.now.trees in
    let live : c.index-args-i.result < n = all_at (λ j. j < n) c.args.args.now c.loop-i.i c.index-args-i.result c.requires.args (omega arith) c.index-args-i.is in
    omega (arith, live, c.loop-i.invariant.grows.now.more_trees)

pub add_pairs-requires-clause-made : goal.add_pairs-requires-clause-made
add_pairs-requires-clause-made c = c.loop-i.invariant.live
