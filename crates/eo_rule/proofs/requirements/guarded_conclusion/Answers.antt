use Rattle.std.proofs.Common.{◌≡◌, ℕ, ◌<◌, suc, ◌-◌, All, length, map, drop, sym, ap, ◌∙◌, subst, arith}
use Rattle.eo_base.proofs.Elements.{all_at}
use Rattle.eo_sig.specs.Reading.{read_pair}
use Rattle.eo_term.specs.Terms.{tree_at}
use Rattle.eo_term.specs.Tree.{Tree, is_tall}
use Rattle.eo_rule.specs.Instance.{under, required}
use Rattle.eo_rule.proofs.Guarded.{drop_map, required_tall}
use Rattle.eo_rule.proofs.requirements.guarded_conclusion.Goals as goal

pub returns-in_err-made-clause-gives : goal.returns-in_err-made-clause-gives
returns-in_err-made-clause-gives c =
    let ts = c.args.table.now.trees in
    let us = c.loop-left.table.trees in
    let v = c.loop-left.invariant in
    let i = c.loop-left.left - 1 in
    let rs = c.as_slice-requirements.result.now in
    let own = c.as_slice-requirements.ensures in
    let Q = map (read_pair ts) rs in
    let t : Tree = tree_at ts c.args.rule.now.conclusion in
    let q = c.index-requirements-left.result in
    let in_range : i < length rs = omega (arith, v.within, c.loop-left-test.true) in
    let live = all_at (λ (z : ℕ × ℕ). (z.0 < length ts) × (z.1 < length ts)) rs i q (subst (All (λ (z : ℕ × ℕ). (z.0 < length ts) × (z.1 < length ts))) (sym own) c.requires.requirements) in_range c.index-requirements-left.is in
    let one = v.grows.now.tree q.0 live.0 in
    let two = v.grows.now.tree q.1 live.1 in
    let next : c.loop-left.left ≡ suc i = omega (arith, c.loop-left-test.true) in
    let made : under (tree_at us q.0, tree_at us q.1) (tree_at us c.loop-left.made) ≡ required (drop i Q) t =
    (λ k. under (one k, two k) (v.tree k)) ∙ (λ k. under (read_pair ts q) (required (drop (next k) Q) t)) ∙ sym (ap (λ xs. required xs t) (drop_map (read_pair ts) rs i q in_range c.index-requirements-left.is)) in
    let whole : Tree = required (map (read_pair ts) c.args.rule.now.requirements) t in
    c.builds_law.ensures.term _ _ whole _ _ c.from_residual.ensures.1
    (λ h. (λ k. is_tall (required (map (read_pair ts) (sym own k)) t)) ∙ required_tall Q t i ((λ k. is_tall (sym made k)) ∙ h))
    c.in_err-made.ensures.gives

pub returns-in_err-made-clause-grows : goal.returns-in_err-made-clause-grows
returns-in_err-made-clause-grows c = c.table_law.ensures.later _ _ _ c.loop-left.invariant.grows c.under.ensures.grows

pub loop-left-preserved : goal.loop-left-preserved
loop-left-preserved c =
    let ts = c.args.table.now.trees in
    let us = c.loop-left.table.trees in
    let v = c.loop-left.invariant in
    let i = c.loop-left.left - 1 in
    let rs = c.as_slice-requirements.result.now in
    let own = c.as_slice-requirements.ensures in
    let Q = map (read_pair ts) rs in
    let t : Tree = tree_at ts c.args.rule.now.conclusion in
    let q = c.index-requirements-left.result in
    let in_range : i < length rs = omega (arith, v.within, c.loop-left-test.true) in
    let live = all_at (λ (z : ℕ × ℕ). (z.0 < length ts) × (z.1 < length ts)) rs i q (subst (All (λ (z : ℕ × ℕ). (z.0 < length ts) × (z.1 < length ts))) (sym own) c.requires.requirements) in_range c.index-requirements-left.is in
    let one = v.grows.now.tree q.0 live.0 in
    let two = v.grows.now.tree q.1 live.1 in
    let next : c.loop-left.left ≡ suc i = omega (arith, c.loop-left-test.true) in
    let made : under (tree_at us q.0, tree_at us q.1) (tree_at us c.loop-left.made) ≡ required (drop i Q) t =
    (λ k. under (one k, two k) (v.tree k)) ∙ (λ k. under (read_pair ts q) (required (drop (next k) Q) t)) ∙ sym (ap (λ xs. required xs t) (drop_map (read_pair ts) rs i q in_range c.index-requirements-left.is)) in
    record {
      within = omega (arith, v.within);
      live = c.in_ok-made.ensures.gives.live;
      grows = c.table_law.ensures.later _ _ _ v.grows c.under.ensures.grows;
      tree = c.in_ok-made.ensures.gives.tree ∙ made;
    }

pub under-requires : goal.under-requires
under-requires c =
    let ts = c.args.table.now.trees in
    let v = c.loop-left.invariant in
    let i = c.loop-left.left - 1 in
    let rs = c.as_slice-requirements.result.now in
    let q = c.index-requirements-left.result in
    let in_range : i < length rs = omega (arith, v.within, c.loop-left-test.true) in
    let live = all_at (λ (z : ℕ × ℕ). (z.0 < length ts) × (z.1 < length ts)) rs i q (subst (All (λ (z : ℕ × ℕ). (z.0 < length ts) × (z.1 < length ts))) (sym c.as_slice-requirements.ensures) c.requires.requirements) in_range c.index-requirements-left.is in
    let more = v.grows.now.more_trees in
    record { first = omega (arith, live.0, more); second = omega (arith, live.1, more); live = v.live }
