use Rattle.std.proofs.Common.{◌≡◌, ◌<◌, suc, ◌-◌, Ok, length, map, drop, get_or, sym, ◌∙◌, subst, arith}
use Rattle.eo_base.proofs.Elements.{all_at}
use Rattle.eo_base.specs.Answers.{Tells}
use Rattle.eo_base.specs.Checks.{Checked}
use Rattle.eo_term.specs.Terms.{tree_at}
use Rattle.eo_sig.specs.declared.records.Param.{Param}
use Rattle.eo_sig.specs.Reading.{read_parameter, signature}
use Rattle.eo_pattern.specs.Matching.{Assignment}
use Rattle.eo_pattern.specs.Slots.{held}
use Rattle.eo_type.proofs.Keeping.{fits_same, fits_on}
use Rattle.eo_rule.specs.Answers.{told}
use Rattle.eo_rule.specs.Uses.{check_type, check_types}
use Rattle.eo_rule.proofs.Steps.{assignment_fails}
use Rattle.eo_rule.proofs.Chains.{types-end, types-from-start, types-step}
use Rattle.eo_rule.proofs.Guarded.{drop_map, length_map}
use Rattle.eo_rule.proofs.typing.check_types.Goals as goal

pub loop-left-init : goal.loop-left-init
loop-left-init c =
    let t = c.args.table.now in
    record {
      within = omega arith;
      below = c.requires.below;
      extends = record { fits = fits_same c.requires.fit; grows = c.laws.ensures t t c.requires.fit.below (c.table_law.ensures.same t) };
      checked = types-end (signature t.trees c.args.sig.now) (held t.trees c.args.subst.now) (map (read_parameter t.trees) c.args.params.now) (length c.args.params.now) (length_map (read_parameter t.trees) c.args.params.now);
    }

pub loop-left-preserved : goal.loop-left-preserved
loop-left-preserved c =
    let t = c.args.table.now in
    let S = signature t.trees c.args.sig.now in
    let σ = held t.trees c.args.subst.now in
    let ps = map (read_parameter t.trees) c.args.params.now in
    let v = c.loop-left.invariant in
    let i = c.loop-left.left - 1 in
    let a = c.index-params-left.result in
    let in_range : i < length c.args.params.now = omega (arith, v.within, c.loop-left-test.true) in
    let live : a.ty < length t.trees = all_at (λ (p : Param). p.ty < length t.trees) c.args.params.now i a c.requires.params in_range c.index-params-left.is in
    let τ : Assignment = held c.loop-left.table.trees c.loop-left.subst in
    let next : suc i ≡ c.loop-left.left = omega (arith, c.loop-left-test.true) in
    let before : check_types S σ (suc i) (drop (suc i) ps) ≡ Ok τ = (λ k. check_types S σ (next k) (drop (next k) ps)) ∙ v.checked in
    let us = c.loop-left.table.trees in
    let found = sym c.index-params-left.is in
    let tree : tree_at us (get_or c.args.params.now i a).ty ≡ tree_at t.trees a.ty = (λ k. tree_at us (found k).ty) ∙ v.extends.grows.table.now.tree a.ty live in
    let step = types-step S σ ps i (read_parameter t.trees a) τ (drop_map (read_parameter t.trees) c.args.params.now i a in_range c.index-params-left.is) before in
    let e = c.in_ok-check_parameter.ensures in
    record {
      within = omega (arith, v.within);
      below = e.gives.live;
      extends = record {
        fits = fits_on v.extends.fits e.extends.fits;
        grows = c.laws.ensures t c.check_parameter.new.table c.requires.fit.below (c.table_law.ensures.later t c.loop-left.table c.check_parameter.new.table v.extends.grows.table e.extends.grows.table);
      };
      checked = step ∙ sym (λ k. check_type (v.extends.grows.stays.signature k) τ (tree k) (τ i)) ∙ e.gives.is;
    }

pub returns-in_err-check_parameter-clause-gives : goal.returns-in_err-check_parameter-clause-gives
returns-in_err-check_parameter-clause-gives c =
    let t = c.args.table.now in
    let S = signature t.trees c.args.sig.now in
    let σ = held t.trees c.args.subst.now in
    let ps = map (read_parameter t.trees) c.args.params.now in
    let v = c.loop-left.invariant in
    let i = c.loop-left.left - 1 in
    let a = c.index-params-left.result in
    let in_range : i < length c.args.params.now = omega (arith, v.within, c.loop-left-test.true) in
    let live : a.ty < length t.trees = all_at (λ (p : Param). p.ty < length t.trees) c.args.params.now i a c.requires.params in_range c.index-params-left.is in
    let τ : Assignment = held c.loop-left.table.trees c.loop-left.subst in
    let next : suc i ≡ c.loop-left.left = omega (arith, c.loop-left-test.true) in
    let before : check_types S σ (suc i) (drop (suc i) ps) ≡ Ok τ = (λ k. check_types S σ (next k) (drop (next k) ps)) ∙ v.checked in
    let us = c.loop-left.table.trees in
    let found = sym c.index-params-left.is in
    let tree : tree_at us (get_or c.args.params.now i a).ty ≡ tree_at t.trees a.ty = (λ k. tree_at us (found k).ty) ∙ v.extends.grows.table.now.tree a.ty live in
    let step = types-step S σ ps i (read_parameter t.trees a) τ (drop_map (read_parameter t.trees) c.args.params.now i a in_range c.index-params-left.is) before in
    let x = c.in_err-check_parameter.field-0.0 in
    assignment_fails c.check_parameter.new.table c.check_parameter.new.subst _ (check_types S σ 0 ps) x (check_types S σ i (drop i ps)) c.from_residual.ensures.1 (types-from-start S σ i ps)
    (subst (λ (o : Checked Assignment). Tells told x o) ((λ k. check_type (v.extends.grows.stays.signature k) τ (tree k) (τ i)) ∙ sym step) c.in_err-check_parameter.ensures.gives)

pub check_parameter-requires : goal.check_parameter-requires
check_parameter-requires c =
    let ts = c.args.table.now.trees in
    let v = c.loop-left.invariant in
    let i = c.loop-left.left - 1 in
    let a = c.index-params-left.result in
    let in_range : i < length c.args.params.now = omega (arith, v.within, c.loop-left-test.true) in
    let live : a.ty < length ts = all_at (λ (p : Param). p.ty < length ts) c.args.params.now i a c.requires.params in_range c.index-params-left.is in
    record { ty = omega (arith, live, v.extends.grows.table.now.more_trees); below = v.below; fit = v.extends.fits.fit }

pub returns-in_err-check_parameter-clause-extends : goal.returns-in_err-check_parameter-clause-extends
returns-in_err-check_parameter-clause-extends c =
    let t = c.args.table.now in
    let new = c.check_parameter.new.table in
    record {
      fits = fits_on c.loop-left.invariant.extends.fits c.in_err-check_parameter.ensures.extends.fits;
      grows = c.laws.ensures t new c.requires.fit.below (c.table_law.ensures.later t c.loop-left.table new c.loop-left.invariant.extends.grows.table c.in_err-check_parameter.ensures.extends.grows.table);
    }

pub returns-clause-gives : goal.returns-clause-gives
returns-clause-gives c =
    let ts = c.args.table.now.trees in
    let v = c.loop-left.invariant in
    let zero : 0 ≡ c.loop-left.left = omega (arith, c.loop-left-test.false) in
    record {
      live = v.below;
      is = (λ k. check_types (signature ts c.args.sig.now) (held ts c.args.subst.now) (zero k) (drop (zero k) (map (read_parameter ts) c.args.params.now))) ∙ v.checked;
    }
