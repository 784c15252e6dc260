use Rattle.std.proofs.Common.{◌≡◌, ◌∙◌, sym, ap, subst, length, arith}
use Rattle.std.specs.Prelude.{IfOk}
use Rattle.eo_term.specs.Growth.{trees_in}
use Rattle.eo_term.specs.Terms.{arity}
use Rattle.eo_sig.specs.Reading.{signature}
use Rattle.eo_stack.specs.Evaluation.{operator_value}
use Rattle.eo_stack.specs.Machine.{low_outcome}
use Rattle.eo_stack.specs.Reading.{IsOutcome}
use Rattle.eo_stack.proofs.OnValues.{type_given, variable_given, name_given, other_is}
use Rattle.eo_type.proofs.Keeping.{fits_same}
use Rattle.eo_stack.proofs.operators.operator.Goals as goal

pub returns-in-Typeof : goal.returns-in-Typeof
returns-in-Typeof c =
    let t = c.args.table.now in
    let S = signature t.trees c.args.sig.now in
    let vs = trees_in t c.args.args.now in
    let new = c.type_of.new.table in
    let count : length c.args.args.now ≡ 1 = c.requires.arguments.count ∙ ap arity c.in-Typeof.is in
    record {
      outcome = subst (λ op. IfOk c.type_of.result (IsOutcome new (low_outcome (operator_value S op vs)))) (sym c.in-Typeof.is)
          (subst (λ o. IfOk c.type_of.result (IsOutcome new o)) (type_given S t.trees c.args.args.now c.index-args-0.result count c.index-args-0.is) c.type_of.ensures.outcome);
      extends = c.type_of.ensures.extends;
    }

pub returns-in-Var : goal.returns-in-Var
returns-in-Var c =
    let t = c.args.table.now in
    let S = signature t.trees c.args.sig.now in
    let vs = trees_in t c.args.args.now in
    let new = c.variable.new.table in
    let a = c.index-args-0-in-Var.result in
    let b = c.index-args-1.result in
    let count : length c.args.args.now ≡ 2 = c.requires.arguments.count ∙ ap arity c.in-Var.is in
    record {
      outcome = subst (λ op. IfOk c.variable.result (IsOutcome new (low_outcome (operator_value S op vs)))) (sym c.in-Var.is)
          (subst (λ o. IfOk c.variable.result (IsOutcome new o)) (variable_given S t.trees c.args.args.now a b count c.index-args-0-in-Var.is c.index-args-1.is) c.variable.ensures.outcome);
      extends = record {
        fits = fits_same (c.laws-2.ensures.grown c.args.sig.now t new c.variable.ensures.grows.now c.requires.fits);
        grows = c.laws.ensures t new c.requires.fits.below c.variable.ensures.grows;
      };
    }

pub returns-in-Nameof : goal.returns-in-Nameof
returns-in-Nameof c =
    let t = c.args.table.now in
    let S = signature t.trees c.args.sig.now in
    let vs = trees_in t c.args.args.now in
    let new = c.name_of.new.table in
    let a = c.index-args-0-in-Nameof.result in
    let count : length c.args.args.now ≡ 1 = c.requires.arguments.count ∙ ap arity c.in-Nameof.is in
    record {
      outcome = subst (λ op. IfOk c.name_of.result (IsOutcome new (low_outcome (operator_value S op vs)))) (sym c.in-Nameof.is)
          (subst (λ o. IfOk c.name_of.result (IsOutcome new o)) (name_given S t.trees c.args.args.now a count c.index-args-0-in-Nameof.is) c.name_of.ensures.outcome);
      extends = record {
        fits = fits_same (c.laws-2.ensures.grown c.args.sig.now t new c.name_of.ensures.grows.now c.requires.fits);
        grows = c.laws.ensures t new c.requires.fits.below c.name_of.ensures.grows;
      };
    }

pub returns-in_default : goal.returns-in_default
returns-in_default c =
    let t = c.args.table.now in
    let S = signature t.trees c.args.sig.now in
    let vs = trees_in t c.args.args.now in
    let new = c.other.new.table in
    let o = c.other.ensures in
    let not = c.in_default in
    record {
      outcome = subst (λ o. IfOk c.other.result (IsOutcome new o)) (ap low_outcome (other_is S c.args.op vs not.not-Typeof not.not-Var not.not-Nameof)) o.outcome;
      extends = record { fits = fits_same (c.laws-2.ensures.grown c.args.sig.now t new o.grows.table.now c.requires.fits); grows = o.grows };
    }

pub bounds-args-0 : goal.bounds-args-0
bounds-args-0 c = omega (arith, c.requires.arguments.count, ap arity c.in-Typeof.is)

pub bounds-args-0-in-Var : goal.bounds-args-0-in-Var
bounds-args-0-in-Var c = omega (arith, c.requires.arguments.count, ap arity c.in-Var.is)

pub bounds-args-1 : goal.bounds-args-1
bounds-args-1 c = omega (arith, c.requires.arguments.count, ap arity c.in-Var.is)

pub bounds-args-0-in-Nameof : goal.bounds-args-0-in-Nameof
bounds-args-0-in-Nameof c = omega (arith, c.requires.arguments.count, ap arity c.in-Nameof.is)
