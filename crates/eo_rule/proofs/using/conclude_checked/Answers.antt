use Rattle.std.proofs.Common.{◌<◌, All, length, map, option_map, sym, ◌∙◌, subst, arith}
use Rattle.eo_base.specs.Answers.{Tells}
use Rattle.eo_base.specs.Checks.{Checked, Passed}
use Rattle.eo_sig.specs.Reading.{read_parameter, read_rule, signature}
use Rattle.eo_sig.specs.Usable.{IsUsable}
use Rattle.eo_sig.specs.declared.records.Param.{Param}
use Rattle.eo_term.specs.Terms.{tree_at}
use Rattle.eo_term.specs.Tree.{Tree}
use Rattle.eo_pattern.specs.Matching.{Assignment, put}
use Rattle.eo_pattern.specs.Slots.{held}
use Rattle.eo_type.proofs.Keeping.{fits_same, fits_on}
use Rattle.eo_type.proofs.Fitting.{grows_under_on}
use Rattle.eo_rule.specs.Answers.{told, GivesTerm}
use Rattle.eo_rule.specs.Instance.{guarded_conclusion}
use Rattle.eo_rule.specs.Reading.{read_use}
use Rattle.eo_rule.specs.Uses.{matched, check_types, conclude_value, check_formula, check_stated, kind_conclusion}
use Rattle.eo_rule.proofs.Steps.{term_fails}
use Rattle.eo_rule.proofs.Stated.{stated_value, value_stays}
use Rattle.eo_rule.proofs.Chains.{kind-matched, kind-types, kind-value, kind-formula, kind-stated}
use Rattle.eo_rule.proofs.using.conclude_checked.Goals as goal

pub returns-in_err-match_given-clause-gives : goal.returns-in_err-match_given-clause-gives
returns-in_err-match_given-clause-gives c =
    let ts = c.args.table.now.trees in
    let S = signature ts c.args.sig.now in
    let r = read_rule ts c.args.rule.now in
    let u = read_use ts c.args.given.now in
    term_fails c.match_given.new.table _ (kind_conclusion S r u) c.in_err-match_given.field-0.0 (matched S r u) c.from_residual.ensures.1 (kind-matched S r u) c.in_err-match_given.ensures.gives

pub returns-in_err-check_types-clause-gives : goal.returns-in_err-check_types-clause-gives
returns-in_err-check_types-clause-gives c =
    let t = c.args.table.now in
    let S = signature t.trees c.args.sig.now in
    let d = c.args.rule.now in
    let r = read_rule t.trees d in
    let u = read_use t.trees c.args.given.now in
    let one = c.match_given.new.table in
    let m = c.in_ok-match_given.ensures in
    let σ = held one.trees c.match_given.new.subst in
    let rule = (c.growing_law.ensures.rule d t one c.requires.rule m.grows.table.now).rule in
    let x = c.in_err-check_types.field-0.0 in
    term_fails c.check_types.new.table _ (kind_conclusion S r u) x (check_types S σ 0 r.parameters) c.from_residual-in_err-check_types.ensures.1 (kind-types S r u σ m.gives.is)
    (subst (λ (o : Checked Assignment). Tells told x o)
    ((λ k. check_types (m.grows.stays.signature k) σ 0 (map (read_parameter one.trees) (c.as_slice.ensures k))) ∙ (λ k. check_types S σ 0 (rule k).parameters))
    c.in_err-check_types.ensures.gives)

pub returns-in_err-formula-clause-gives : goal.returns-in_err-formula-clause-gives
returns-in_err-formula-clause-gives c =
    let t = c.args.table.now in
    let S = signature t.trees c.args.sig.now in
    let d = c.args.rule.now in
    let r = read_rule t.trees d in
    let u = read_use t.trees c.args.given.now in
    let one = c.match_given.new.table in
    let two = c.check_types.new.table in
    let m = c.in_ok-match_given.ensures in
    let y = c.in_ok-check_types.ensures in
    let σ = held one.trees c.match_given.new.subst in
    let τ = held two.trees c.check_types.new.subst in
    let rule = (c.growing_law.ensures.rule d t one c.requires.rule m.grows.table.now).rule in
    let types = sym ((λ k. check_types (m.grows.stays.signature k) σ 0 (map (read_parameter one.trees) (c.as_slice.ensures k))) ∙ (λ k. check_types S σ 0 (rule k).parameters)) ∙ y.gives.is in
    let now = y.extends.grows.table.since t m.grows.table.now in
    let later = (c.growing_law.ensures.rule d t two c.requires.rule now).rule in
    let x = c.in_err-formula.field-0.0 in
    term_fails c.conclude_value.new.table _ (kind_conclusion S r u) x (conclude_value S (put τ (guarded_conclusion r))) c.from_residual-in_err-formula.ensures.1 (kind-value S r u σ τ m.gives.is types)
    (subst (λ (o : Checked Tree). Tells told x o)
    (λ k. conclude_value ((y.extends.grows.stays.signature ∙ m.grows.stays.signature) k) (put τ (guarded_conclusion (later k))))
    c.in_err-formula.ensures.gives)

pub returns-in_err-check_formula-clause-gives : goal.returns-in_err-check_formula-clause-gives
returns-in_err-check_formula-clause-gives c =
    let t = c.args.table.now in
    let S = signature t.trees c.args.sig.now in
    let d = c.args.rule.now in
    let r = read_rule t.trees d in
    let u = read_use t.trees c.args.given.now in
    let one = c.match_given.new.table in
    let two = c.check_types.new.table in
    let three = c.conclude_value.new.table in
    let m = c.in_ok-match_given.ensures in
    let y = c.in_ok-check_types.ensures in
    let v = c.in_ok-formula.ensures in
    let σ = held one.trees c.match_given.new.subst in
    let τ = held two.trees c.check_types.new.subst in
    let rule = (c.growing_law.ensures.rule d t one c.requires.rule m.grows.table.now).rule in
    let types = sym ((λ k. check_types (m.grows.stays.signature k) σ 0 (map (read_parameter one.trees) (c.as_slice.ensures k))) ∙ (λ k. check_types S σ 0 (rule k).parameters)) ∙ y.gives.is in
    let now = y.extends.grows.table.since t m.grows.table.now in
    let later = (c.growing_law.ensures.rule d t two c.requires.rule now).rule in
    let same = y.extends.grows.stays.signature ∙ m.grows.stays.signature in
    let value = sym (λ k. conclude_value (same k) (put τ (guarded_conclusion (later k)))) ∙ v.gives.is in
    let w = tree_at three.trees c.in_ok-formula.formula in
    let x = c.in_err-check_formula.field-0.0 in
    term_fails c.check_formula.new.table _ (kind_conclusion S r u) x (check_formula S w) c.from_residual-in_err-check_formula.ensures.1 (kind-formula S r u σ τ m.gives.is types w value)
    (subst (λ (o : Checked Passed). Tells told x o) (λ k. check_formula ((v.extends.grows.stays.signature ∙ same) k) w) c.in_err-check_formula.ensures.passes)

pub returns-clause-gives : goal.returns-clause-gives
returns-clause-gives c =
    let t = c.args.table.now in
    let S = signature t.trees c.args.sig.now in
    let d = c.args.rule.now in
    let r = read_rule t.trees d in
    let u = read_use t.trees c.args.given.now in
    let one = c.match_given.new.table in
    let two = c.check_types.new.table in
    let three = c.conclude_value.new.table in
    let four = c.check_formula.new.table in
    let m = c.in_ok-match_given.ensures in
    let y = c.in_ok-check_types.ensures in
    let v = c.in_ok-formula.ensures in
    let f = c.in_ok-check_formula.ensures in
    let σ = held one.trees c.match_given.new.subst in
    let τ = held two.trees c.check_types.new.subst in
    let rule = (c.growing_law.ensures.rule d t one c.requires.rule m.grows.table.now).rule in
    let types = sym ((λ k. check_types (m.grows.stays.signature k) σ 0 (map (read_parameter one.trees) (c.as_slice.ensures k))) ∙ (λ k. check_types S σ 0 (rule k).parameters)) ∙ y.gives.is in
    let now = y.extends.grows.table.since t m.grows.table.now in
    let later = (c.growing_law.ensures.rule d t two c.requires.rule now).rule in
    let same = y.extends.grows.stays.signature ∙ m.grows.stays.signature in
    let value = sym (λ k. conclude_value (same k) (put τ (guarded_conclusion (later k)))) ∙ v.gives.is in
    let w = tree_at three.trees c.in_ok-formula.formula in
    let formula = sym (λ k. check_formula ((v.extends.grows.stays.signature ∙ same) k) w) ∙ f.passes.is in
    let given = (c.growing_law.ensures.given c.args.given.now t four c.requires.live (f.extends.grows.table.since t (v.extends.grows.table.since t now))).given in
    let tree = f.extends.grows.table.now.tree c.in_ok-formula.formula v.gives.live in
    subst (λ (o : Checked Tree). GivesTerm four c.check_stated.result o)
    ((λ k. check_stated (given k).stated (tree k)) ∙ sym (kind-stated S r u σ τ m.gives.is types w value formula))
    c.check_stated.ensures

pub returns-clause-value : goal.returns-clause-value
returns-clause-value c =
    let four = c.check_formula.new.table in
    let three = c.conclude_value.new.table in
    let value = value_stays three four c.in_ok-formula.formula c.in_ok-check_formula.ensures.extends.grows.table.now c.in_ok-formula.ensures.value in
    stated_value four c.check_stated.result (option_map (tree_at four.trees) c.args.given.now.stated) c.in_ok-formula.formula value c.check_stated.ensures

pub check_types-requires : goal.check_types-requires
check_types-requires c =
    let t = c.args.table.now in
    let one = c.match_given.new.table in
    let m = c.in_ok-match_given.ensures in
    let rule = (c.growing_law.ensures.rule c.args.rule.now t one c.requires.rule m.grows.table.now).below in
    record {
      params = subst (All (λ (p : Param). p.ty < length one.trees)) (sym c.as_slice.ensures) rule.params;
      below = m.gives.live;
      fit = c.laws-2.ensures.grown c.args.sig.now t one m.grows.table.now c.requires.serves.fit;
    }

pub conclude_value-requires : goal.conclude_value-requires
conclude_value-requires c =
    let t = c.args.table.now in
    let m = c.in_ok-match_given.ensures in
    let y = c.in_ok-check_types.ensures in
    record {
      rule = (c.growing_law.ensures.rule c.args.rule.now t c.check_types.new.table c.requires.rule (y.extends.grows.table.since t m.grows.table.now)).below;
      below = y.gives.live;
      serves = record { usable = subst IsUsable (sym (y.extends.grows.stays.signature ∙ m.grows.stays.signature)) c.requires.serves.usable; fit = y.extends.fits.fit };
    }

pub check_formula-requires : goal.check_formula-requires
check_formula-requires c = record { live = c.in_ok-formula.ensures.gives.live; fits = c.in_ok-formula.ensures.extends.fits.fit }

pub check_stated-requires : goal.check_stated-requires
check_stated-requires c =
    let t = c.args.table.now in
    let f = c.in_ok-check_formula.ensures.extends.grows.table in
    let since = f.since t (c.in_ok-formula.ensures.extends.grows.table.since t (c.in_ok-check_types.ensures.extends.grows.table.since t c.in_ok-match_given.ensures.grows.table.now)) in
    record {
      stated = (c.growing_law.ensures.given c.args.given.now t c.check_formula.new.table c.requires.live since).below.stated;
      live = omega (arith, c.in_ok-formula.ensures.gives.live, f.now.more_trees);
    }

pub returns-in_err-match_given-clause-extends : goal.returns-in_err-match_given-clause-extends
returns-in_err-match_given-clause-extends c =
    record {
      fits = fits_same (c.laws-2.ensures.grown c.args.sig.now c.args.table.now c.match_given.new.table c.in_err-match_given.ensures.grows.table.now c.requires.serves.fit);
      grows = c.in_err-match_given.ensures.grows;
    }

pub returns-in_err-check_types-clause-extends : goal.returns-in_err-check_types-clause-extends
returns-in_err-check_types-clause-extends c =
    record {
      fits = c.in_err-check_types.ensures.extends.fits;
      grows = grows_under_on c.args.sig.now c.args.table.now c.match_given.new.table c.check_types.new.table c.in_ok-match_given.ensures.grows c.in_err-check_types.ensures.extends.grows;
    }

pub returns-in_err-formula-clause-extends : goal.returns-in_err-formula-clause-extends
returns-in_err-formula-clause-extends c =
    let k = c.args.sig.now in
    let t = c.args.table.now in
    let two = c.check_types.new.table in
    record {
      fits = fits_on c.in_ok-check_types.ensures.extends.fits c.in_err-formula.ensures.extends.fits;
      grows = grows_under_on k t two c.conclude_value.new.table (grows_under_on k t c.match_given.new.table two c.in_ok-match_given.ensures.grows c.in_ok-check_types.ensures.extends.grows) c.in_err-formula.ensures.extends.grows;
    }

pub returns-in_err-check_formula-clause-extends : goal.returns-in_err-check_formula-clause-extends
returns-in_err-check_formula-clause-extends c =
    let k = c.args.sig.now in
    let t = c.args.table.now in
    let two = c.check_types.new.table in
    let three = c.conclude_value.new.table in
    let types = grows_under_on k t c.match_given.new.table two c.in_ok-match_given.ensures.grows c.in_ok-check_types.ensures.extends.grows in
    record {
      fits = fits_on (fits_on c.in_ok-check_types.ensures.extends.fits c.in_ok-formula.ensures.extends.fits) c.in_err-check_formula.ensures.extends.fits;
      grows = grows_under_on k t three c.check_formula.new.table (grows_under_on k t two three types c.in_ok-formula.ensures.extends.grows) c.in_err-check_formula.ensures.extends.grows;
    }

pub returns-clause-extends : goal.returns-clause-extends
returns-clause-extends c =
    let k = c.args.sig.now in
    let t = c.args.table.now in
    let two = c.check_types.new.table in
    let three = c.conclude_value.new.table in
    let types = grows_under_on k t c.match_given.new.table two c.in_ok-match_given.ensures.grows c.in_ok-check_types.ensures.extends.grows in
    record {
      fits = fits_on (fits_on c.in_ok-check_types.ensures.extends.fits c.in_ok-formula.ensures.extends.fits) c.in_ok-check_formula.ensures.extends.fits;
      grows = grows_under_on k t three c.check_formula.new.table (grows_under_on k t two three types c.in_ok-formula.ensures.extends.grows) c.in_ok-check_formula.ensures.extends.grows;
    }
