use Rattle.std.proofs.Common.{◌<◌, ◌≤◌, length, arith, ap, sym, subst, ◌∙◌}
use Rattle.eo_base.specs.declared.FaultName.TheVariants.{Redeclared}
use Rattle.eo_base.specs.Limits.{parameters_limit}
use Rattle.std.proofs.lemmas.Result.{IfOk-weaker}
use Rattle.eo_base.proofs.Answering.{fails}
use Rattle.eo_term.proofs.Growing.{grows_refl, grows_on}
use Rattle.eo_declare.specs.Declarations.{defined_fun, typed_macro, is_free_or_reference}
use Rattle.eo_declare.specs.Declaring.{read_bound}
use Rattle.eo_declare.specs.Gives.{GivesMacro}
use Rattle.eo_elab.specs.Worlds.{context_in}
use Rattle.eo_declare.specs.Worlds.{reference_context}
use Rattle.eo_names.specs.declared.scope.FileKind.TheVariants as settings
use Rattle.eo_declare.proofs.CheckedLemmas.{require-no}
use Rattle.eo_declare.proofs.ReferenceLemmas.{fun-many, fun-unbound, fun-bound}
use Rattle.eo_declare.proofs.Giving.{same_context_at}
use Rattle.eo_declare.proofs.references.function_macro.Goals as goal

pub returns-then-not-may_declare-clause-gives : goal.returns-then-not-may_declare-clause-gives
unfolding defined_fun
returns-then-not-may_declare-clause-gives c = require-no _ Redeclared _ (sym (c.may_declare.ensures c.args.table.now.trees) ∙ c.if-not-may_declare.true)

pub returns-then-len-gt-PARAMETERS-clause-gives : goal.returns-then-len-gt-PARAMETERS-clause-gives
returns-then-len-gt-PARAMETERS-clause-gives c =
    let t = c.args.table.now in
    let many : parameters_limit < length c.args.params.now = omega (arith, c.len.ensures, c.if-len-gt-PARAMETERS.true) in
    fun-many (reference_context t c.args.sig.now) c.args.name.now c.args.output.now c.args.body.now c.args.params.now (sym (c.may_declare.ensures t.trees) ∙ c.if-not-may_declare.false) many

pub returns-in_err-bound-clause-gives : goal.returns-in_err-bound-clause-gives
returns-in_err-bound-clause-gives c =
    let t = c.args.table.now in
    let few : length c.args.params.now ≤ parameters_limit = omega (arith, c.len.ensures, c.if-len-gt-PARAMETERS.false) in
    fails _ _ _ _ _ _ _ c.from_residual.ensures.1
    (fun-unbound (reference_context t c.args.sig.now) c.args.name.now c.args.output.now c.args.body.now c.args.params.now (sym (c.may_declare.ensures t.trees) ∙ c.if-not-may_declare.false) few) c.in_err-bound.ensures.gives

pub returns-clause-gives : goal.returns-clause-gives
returns-clause-gives c =
    let t = c.args.table.now in
    let us = c.bind.new.table in
    let x = reference_context t c.args.sig.now in
    let few : length c.args.params.now ≤ parameters_limit = omega (arith, c.len.ensures, c.if-len-gt-PARAMETERS.false) in
    let b = read_bound us.trees c.in_ok-bound.bound in
    let same = same_context_at settings.Reference c.args.sig.now t us c.laws.ensures c.requires c.in_ok-bound.ensures.grows in
    let parts = fun-bound x c.args.name.now c.args.output.now c.args.body.now c.args.params.now (sym (c.may_declare.ensures t.trees) ∙ c.if-not-may_declare.false) few b c.in_ok-bound.ensures.gives.is in
    let link = parts ∙ ap (λ y. typed_macro y c.args.name.now b c.args.output.now c.args.body.now) (sym same) in
    subst (GivesMacro c.typed_macro.new.table c.typed_macro.result) (sym link) c.typed_macro.ensures.gives

pub returns-clause-may : goal.returns-clause-may
returns-clause-may c =
    let t = c.args.table.now in
    IfOk-weaker c.typed_macro.result _ _ (λ d e. ap (is_free_or_reference (context_in t c.args.sig.now)) e ∙ sym (c.may_declare.ensures t.trees) ∙ c.if-not-may_declare.false) c.typed_macro.ensures.name

pub bind-requires : goal.bind-requires
bind-requires c = record { ready = c.requires; few = omega (arith, c.len.ensures, c.if-len-gt-PARAMETERS.false) }

pub typed_macro-requires : goal.typed_macro-requires
typed_macro-requires c = record {
  bound = c.in_ok-bound.ensures.gives.live;
  few = omega (arith, c.in_ok-bound.ensures.count, c.len.ensures, c.if-len-gt-PARAMETERS.false);
}

pub returns-then-not-may_declare-clause-grows : goal.returns-then-not-may_declare-clause-grows
returns-then-not-may_declare-clause-grows c = c.laws.ensures c.args.table.now c.args.table.now c.requires (grows_refl c.args.table.now)

pub returns-then-len-gt-PARAMETERS-clause-grows : goal.returns-then-len-gt-PARAMETERS-clause-grows
returns-then-len-gt-PARAMETERS-clause-grows c = c.laws.ensures c.args.table.now c.args.table.now c.requires (grows_refl c.args.table.now)

pub returns-in_err-bound-clause-grows : goal.returns-in_err-bound-clause-grows
returns-in_err-bound-clause-grows c = c.laws.ensures c.args.table.now c.bind.new.table c.requires c.in_err-bound.ensures.grows

pub returns-clause-grows : goal.returns-clause-grows
returns-clause-grows c =
    c.laws.ensures c.args.table.now c.typed_macro.new.table c.requires (grows_on c.args.table.now c.bind.new.table c.typed_macro.new.table c.in_ok-bound.ensures.grows c.typed_macro.ensures.grows.table)
