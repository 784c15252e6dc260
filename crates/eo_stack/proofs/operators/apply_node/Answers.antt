use Rattle.std.proofs.Common.{◌∙◌, sym, ap, subst}
use Rattle.std.specs.Prelude.{IfOk}
use Rattle.eo_term.specs.Arguments.{arguments_of, count_of}
use Rattle.eo_term.specs.Growth.{tree_in, trees_in}
use Rattle.eo_term.specs.Terms.{text_at, HasArity}
use Rattle.eo_sig.specs.Reading.{signature}
use Rattle.eo_stack.specs.Machine.{made_of, parts_of}
use Rattle.eo_stack.specs.Reading.{IsOutcome}
use Rattle.eo_stack.proofs.OnValues.{var_made, app_made, arr_made}
use Rattle.eo_type.proofs.Keeping.{fits_same}
use Rattle.eo_stack.proofs.Unchanged.{extends_same}
use Rattle.eo_stack.proofs.operators.apply_node.Goals as goal

pub returns-in-Var : goal.returns-in-Var
returns-in-Var c =
    let k = c.args.sig.now in
    let old = c.args.table.now in
    let new = c.intern_outcome.new.table in
    let S = signature old.trees k in
    let t = tree_in old c.args.id in
    let vs = c.args.values.now in
    let a = c.index-values-0.result in
    let o = c.intern_outcome.ensures in
    record {
      outcome = subst (λ o. IfOk c.intern_outcome.result (IsOutcome new o)) (var_made S old.trees t vs c.requires.count (text_at old.texts c.in-Var.name) _ a c.in-Var.ensures.tree c.index-values-0.is) o.outcome;
      extends = record { fits = fits_same (c.laws-2.ensures.grown k old new o.grows.now c.requires.fits); grows = c.laws.ensures old new c.requires.fits.below o.grows };
    }

pub returns-in-App : goal.returns-in-App
returns-in-App c =
    let k = c.args.sig.now in
    let old = c.args.table.now in
    let new = c.intern_outcome-in-App.new.table in
    let S = signature old.trees k in
    let t = tree_in old c.args.id in
    let vs = c.args.values.now in
    let a = c.index-values-0-in-App.result in
    let b = c.index-values-1.result in
    let o = c.intern_outcome-in-App.ensures in
    record {
      outcome = subst (λ o. IfOk c.intern_outcome-in-App.result (IsOutcome new o)) (app_made S old.trees t vs c.requires.count _ _ a b c.in-App.ensures.tree c.index-values-0-in-App.is c.index-values-1.is) o.outcome;
      extends = record { fits = fits_same (c.laws-2.ensures.grown k old new o.grows.now c.requires.fits); grows = c.laws.ensures old new c.requires.fits.below o.grows };
    }

pub returns-in-Arr : goal.returns-in-Arr
returns-in-Arr c =
    let k = c.args.sig.now in
    let old = c.args.table.now in
    let new = c.intern_outcome-in-Arr.new.table in
    let S = signature old.trees k in
    let t = tree_in old c.args.id in
    let vs = c.args.values.now in
    let a = c.index-values-0-in-Arr.result in
    let b = c.index-values-1-in-Arr.result in
    let o = c.intern_outcome-in-Arr.ensures in
    record {
      outcome = subst (λ o. IfOk c.intern_outcome-in-Arr.result (IsOutcome new o)) (arr_made S old.trees t vs c.requires.count _ _ a b c.in-Arr.ensures.tree c.index-values-0-in-Arr.is c.index-values-1-in-Arr.is) o.outcome;
      extends = record { fits = fits_same (c.laws-2.ensures.grown k old new o.grows.now c.requires.fits); grows = c.laws.ensures old new c.requires.fits.below o.grows };
    }

pub returns-in-Op : goal.returns-in-Op
returns-in-Op c =
    let old = c.args.table.now in
    let S = signature old.trees c.args.sig.now in
    let t = tree_in old c.args.id in
    let o = c.apply_op.ensures in
    record {
      outcome = subst (λ y. IfOk c.apply_op.result (IsOutcome c.apply_op.new.table (made_of S y (trees_in old c.args.values.now)))) c.in-Op.ensures.tree (o.outcome (arguments_of t));
      extends = o.extends;
    }

pub returns-in-Par : goal.returns-in-Par
returns-in-Par c =
    let t = c.args.table.now in
    record {
      outcome = record { outcome = ap (λ y. made_of (signature t.trees c.args.sig.now) y (trees_in t c.args.values.now)) c.in-Par.ensures.tree; live = tt };
      extends = extends_same c.requires.fits;
    }

pub returns-in-Qar : goal.returns-in-Qar
returns-in-Qar c =
    let t = c.args.table.now in
    record {
      outcome = record { outcome = ap (λ y. made_of (signature t.trees c.args.sig.now) y (trees_in t c.args.values.now)) c.in-Qar.ensures.tree; live = tt };
      extends = extends_same c.requires.fits;
    }

pub returns-in-Con : goal.returns-in-Con
returns-in-Con c =
    let t = c.args.table.now in
    record {
      outcome = record { outcome = ap (λ y. made_of (signature t.trees c.args.sig.now) y (trees_in t c.args.values.now)) c.in-Con.ensures.tree; live = tt };
      extends = extends_same c.requires.fits;
    }

pub returns-in-Num : goal.returns-in-Num
returns-in-Num c =
    let t = c.args.table.now in
    record {
      outcome = record { outcome = ap (λ y. made_of (signature t.trees c.args.sig.now) y (trees_in t c.args.values.now)) c.in-Num.ensures.tree; live = tt };
      extends = extends_same c.requires.fits;
    }

pub returns-in-Bits : goal.returns-in-Bits
returns-in-Bits c =
    let t = c.args.table.now in
    record {
      outcome = record { outcome = ap (λ y. made_of (signature t.trees c.args.sig.now) y (trees_in t c.args.values.now)) c.in-Bits.ensures.tree; live = tt };
      extends = extends_same c.requires.fits;
    }

pub returns-in-Str : goal.returns-in-Str
returns-in-Str c =
    let t = c.args.table.now in
    record {
      outcome = record { outcome = ap (λ y. made_of (signature t.trees c.args.sig.now) y (trees_in t c.args.values.now)) c.in-Str.ensures.tree; live = tt };
      extends = extends_same c.requires.fits;
    }

pub apply_op-requires : goal.apply_op-requires
apply_op-requires c =
    let o = c.in-Op.ensures in
    record {
      args = c.requires.values;
      count = subst (HasArity c.in-Op.code) (sym (c.requires.count ∙ (ap (λ y. count_of (parts_of y)) (sym o.tree) ∙ o.count))) o.proper;
      fits = c.requires.fits;
    }
