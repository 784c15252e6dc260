use Rattle.std.proofs.Common.{◌<◌, ◌≤◌, length, false, arith, ap, sym, ◌∙◌}
use Rattle.std.specs.Prelude.{Ok}
use Rattle.eo_base.specs.declared.FaultName.TheVariants.{Redeclared}
use Rattle.eo_base.specs.Checks.{Checked}
use Rattle.eo_base.specs.Limits.{parameters_limit}
use Rattle.eo_base.proofs.Answering.{fails}
use Rattle.eo_shape.specs.Reading as forms
use Rattle.eo_sig.specs.Reading.{read_attribute}
use Rattle.eo_sig.specs.Signature.{Attribute, Constant}
use Rattle.eo_term.proofs.Growing.{grows_refl, grows_on}
use Rattle.eo_term.specs.Growth.{tree_in}
use Rattle.eo_term.specs.Tree.{Tree}
use Rattle.eo_declare.specs.Declarations.{declared_parameterized, constant, may_be_constant}
use Rattle.eo_declare.specs.Declaring.{read_bound, typed_over}
use Rattle.eo_elab.specs.Worlds.{context_in}
use Rattle.eo_declare.proofs.BoundLemmas.{parameters-grown, parameters-more}
use Rattle.eo_declare.proofs.CheckedLemmas.{then-ok, then-err, require-no}
use Rattle.eo_declare.proofs.DeclaringLemmas.{parameterized-many, parameterized-unbound, parameterized-over}
use Rattle.eo_declare.proofs.Giving.{same_context}
use Rattle.eo_declare.proofs.declaring.parameterized_constant.Goals as goal

pub returns-then-not-may_name_constant-clause-gives : goal.returns-then-not-may_name_constant-clause-gives
unfolding declared_parameterized
returns-then-not-may_name_constant-clause-gives c = require-no _ Redeclared _ (sym (c.may_name_constant.ensures c.args.table.now.trees) ∙ c.if-not-may_name_constant.true)

pub returns-then-len-gt-PARAMETERS-clause-gives : goal.returns-then-len-gt-PARAMETERS-clause-gives
returns-then-len-gt-PARAMETERS-clause-gives c =
    let t = c.args.table.now in
    let many : parameters_limit < length c.args.params.now = omega (arith, c.len.ensures, c.if-len-gt-PARAMETERS.true) in
    parameterized-many (context_in t c.args.sig.now) c.args.name.now c.args.params.now c.args.ty.now (forms.read_attribute c.args.attribute.now) (sym (c.may_name_constant.ensures t.trees) ∙ c.if-not-may_name_constant.false) many

pub bind-requires-clause-few : goal.bind-requires-clause-few
bind-requires-clause-few c = omega (arith, c.len.ensures, c.if-len-gt-PARAMETERS.false)

pub returns-in_err-bound-clause-gives : goal.returns-in_err-bound-clause-gives
returns-in_err-bound-clause-gives c =
    let t = c.args.table.now in
    let few : length c.args.params.now ≤ parameters_limit = omega (arith, c.len.ensures, c.if-len-gt-PARAMETERS.false) in
    fails _ _ _ _ _ _ _ c.from_residual.ensures.1
    (λ f e. parameterized-unbound (context_in t c.args.sig.now) c.args.name.now c.args.params.now c.args.ty.now (forms.read_attribute c.args.attribute.now) f (sym (c.may_name_constant.ensures t.trees) ∙ c.if-not-may_name_constant.false) few e) c.in_err-bound.ensures.gives

pub typed_over-requires-clause-bound : goal.typed_over-requires-clause-bound
typed_over-requires-clause-bound c = c.in_ok-bound.ensures.gives.live

pub typed_over-requires-clause-few : goal.typed_over-requires-clause-few
typed_over-requires-clause-few c = omega (arith, c.len.ensures, c.if-len-gt-PARAMETERS.false, c.in_ok-bound.ensures.count)

pub returns-in_err-ty-clause-gives : goal.returns-in_err-ty-clause-gives
returns-in_err-ty-clause-gives c =
    let t = c.args.table.now in
    let us = c.bind.new.table in
    let x = context_in t c.args.sig.now in
    let shape = forms.read_attribute c.args.attribute.now in
    let few : length c.args.params.now ≤ parameters_limit = omega (arith, c.len.ensures, c.if-len-gt-PARAMETERS.false) in
    let b = read_bound us.trees c.in_ok-bound.bound in
    let same = same_context c.args.sig.now t us c.laws.ensures c.requires c.in_ok-bound.ensures.grows in
    let made : Tree × Attribute → Checked Constant = λ r. Ok (constant x c.args.name.now b.parameters r.0 r.1) in
    let parts = parameterized-over x c.args.name.now c.args.params.now c.args.ty.now shape b (sym (c.may_name_constant.ensures t.trees) ∙ c.if-not-may_name_constant.false) few c.in_ok-bound.ensures.gives.is in
    fails _ _ _ _ _ _ _ c.from_residual-in_err-ty.ensures.1
    (λ f e. parts ∙ then-err made (typed_over x b c.args.ty.now shape) f (ap (λ y. typed_over y b c.args.ty.now shape) (sym same) ∙ e)) c.in_err-ty.ensures.gives

pub returns-clause-gives : goal.returns-clause-gives
returns-clause-gives c =
    let t = c.args.table.now in
    let us = c.bind.new.table in
    let vs = c.typed_over.new.table in
    let x = context_in t c.args.sig.now in
    let shape = forms.read_attribute c.args.attribute.now in
    let few : length c.args.params.now ≤ parameters_limit = omega (arith, c.len.ensures, c.if-len-gt-PARAMETERS.false) in
    let b = read_bound us.trees c.in_ok-bound.bound in
    let same = same_context c.args.sig.now t us c.laws.ensures c.requires c.in_ok-bound.ensures.grows in
    let made : Tree × Attribute → Checked Constant = λ r. Ok (constant x c.args.name.now b.parameters r.0 r.1) in
    let parts = parameterized-over x c.args.name.now c.args.params.now c.args.ty.now shape b (sym (c.may_name_constant.ensures t.trees) ∙ c.if-not-may_name_constant.false) few c.in_ok-bound.ensures.gives.is in
    let type = tree_in vs c.in_ok-ty.ty in
    let a = read_attribute vs.trees c.in_ok-ty.attribute in
    let params = parameters-grown (length us.trees) us.trees vs.trees c.in_ok-bound.bound.params c.in_ok-ty.ensures.grows.now.tree c.in_ok-bound.ensures.gives.live.params in
    record {
      live = record { params = parameters-more (length us.trees) (length vs.trees) c.in_ok-bound.bound.params c.in_ok-ty.ensures.grows.now.more_trees c.in_ok-bound.ensures.gives.live.params; type = c.in_ok-ty.ensures.gives.live.type; attribute = c.in_ok-ty.ensures.gives.live.attribute };
      is = parts ∙ then-ok made (typed_over x b c.args.ty.now shape) (type, a) (ap (λ y. typed_over y b c.args.ty.now shape) (sym same) ∙ c.in_ok-ty.ensures.gives.is)
          ∙ (λ i. Ok (record { name = sym c.in_ok-new.ensures i; parameters = sym params i; type = type; attribute = a; from_reference = false }));
    }

pub returns-clause-named : goal.returns-clause-named
returns-clause-named c =
    let t = c.args.table.now in
    ap (may_be_constant (context_in t c.args.sig.now)) c.in_ok-new.ensures ∙ sym (c.may_name_constant.ensures t.trees) ∙ c.if-not-may_name_constant.false

pub returns-in_err-ty-clause-grows : goal.returns-in_err-ty-clause-grows
returns-in_err-ty-clause-grows c =
    c.laws.ensures c.args.table.now c.typed_over.new.table c.requires (grows_on c.args.table.now c.bind.new.table c.typed_over.new.table c.in_ok-bound.ensures.grows c.in_err-ty.ensures.grows)

pub returns-in_err-new-clause-grows : goal.returns-in_err-new-clause-grows
returns-in_err-new-clause-grows c =
    c.laws.ensures c.args.table.now c.typed_over.new.table c.requires (grows_on c.args.table.now c.bind.new.table c.typed_over.new.table c.in_ok-bound.ensures.grows c.in_ok-ty.ensures.grows)

pub returns-clause-grows : goal.returns-clause-grows
returns-clause-grows c =
    c.laws.ensures c.args.table.now c.typed_over.new.table c.requires (grows_on c.args.table.now c.bind.new.table c.typed_over.new.table c.in_ok-bound.ensures.grows c.in_ok-ty.ensures.grows)

pub returns-then-not-may_name_constant-clause-grows : goal.returns-then-not-may_name_constant-clause-grows
returns-then-not-may_name_constant-clause-grows c = c.laws.ensures c.args.table.now c.args.table.now c.requires (grows_refl c.args.table.now)

pub returns-then-len-gt-PARAMETERS-clause-grows : goal.returns-then-len-gt-PARAMETERS-clause-grows
returns-then-len-gt-PARAMETERS-clause-grows c = c.laws.ensures c.args.table.now c.args.table.now c.requires (grows_refl c.args.table.now)

pub returns-in_err-bound-clause-grows : goal.returns-in_err-bound-clause-grows
returns-in_err-bound-clause-grows c = c.laws.ensures c.args.table.now c.bind.new.table c.requires c.in_err-bound.ensures.grows
