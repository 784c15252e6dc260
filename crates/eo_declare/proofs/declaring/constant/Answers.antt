use Rattle.std.proofs.Common.{sym, subst, ◌∙◌}
use Rattle.eo_base.specs.declared.FaultName.TheVariants.{Redeclared}
use Rattle.eo_base.proofs.Answering.{fails}
use Rattle.eo_term.proofs.Growing.{grows_refl}
use Rattle.eo_sig.specs.Reading.{read_attribute}
use Rattle.eo_shape.specs.Reading as shapes
use Rattle.eo_term.specs.Growth.{tree_in}
use Rattle.eo_declare.specs.Declarations.{declared_const}
use Rattle.eo_declare.specs.Gives.{GivesConstant}
use Rattle.eo_elab.specs.Worlds.{context_in, context_at}
use Rattle.eo_declare.proofs.CheckedLemmas.{require-no}
use Rattle.eo_declare.proofs.Giving.{may_repeat}
use Rattle.eo_declare.proofs.DeclaringLemmas.{const-link, const-fault}
use Rattle.eo_declare.proofs.declaring.constant.Goals as goal

pub returns-then-not-may_name_constant-clause-gives : goal.returns-then-not-may_name_constant-clause-gives
unfolding declared_const
returns-then-not-may_name_constant-clause-gives c = require-no _ Redeclared _ (sym (c.may_name_constant.ensures c.args.table.now.trees) ∙ c.if-not-may_name_constant.true)

pub returns-in_err-ty-clause-gives : goal.returns-in_err-ty-clause-gives
returns-in_err-ty-clause-gives c =
    let t = c.args.table.now in
    fails _ _ _ _ _ _ _ c.from_residual.ensures.1
    (λ f e. const-fault (context_at t c.args.sig.now c.args.file_kind) c.args.name.now c.args.ty.now (shapes.read_attribute c.args.attribute.now) f (sym (c.may_name_constant.ensures t.trees) ∙ c.if-not-may_name_constant.false) e) c.in_err-ty.ensures.gives

pub returns-clause-gives : goal.returns-clause-gives
returns-clause-gives c =
    let t = c.args.table.now in
    let us = c.type_and_attribute.new.table in
    let link = const-link (context_at t c.args.sig.now c.args.file_kind) c.args.name.now c.args.ty.now (shapes.read_attribute c.args.attribute.now) (tree_in us c.in_ok-ty.ty, read_attribute us.trees c.in_ok-ty.attribute) (sym (c.may_name_constant.ensures t.trees) ∙ c.if-not-may_name_constant.false) c.in_ok-ty.ensures.gives.is in
    subst (GivesConstant us c.plain_constant.result) (sym link) (c.plain_constant.ensures.gives t c.args.sig.now)

pub returns-clause-may : goal.returns-clause-may
returns-clause-may c =
    let t = c.args.table.now in
    may_repeat (context_in t c.args.sig.now) c.type_and_attribute.new.table.trees c.args.name.now c.plain_constant.result (sym (c.may_name_constant.ensures t.trees) ∙ c.if-not-may_name_constant.false) c.plain_constant.ensures.sound c.plain_constant.ensures.name

pub returns-then-not-may_name_constant-clause-grows : goal.returns-then-not-may_name_constant-clause-grows
returns-then-not-may_name_constant-clause-grows c = c.laws.ensures c.args.table.now c.args.table.now c.requires (grows_refl c.args.table.now)

pub returns-in_err-ty-clause-grows : goal.returns-in_err-ty-clause-grows
returns-in_err-ty-clause-grows c = c.laws.ensures c.args.table.now c.type_and_attribute.new.table c.requires c.in_err-ty.ensures.grows

pub returns-clause-grows : goal.returns-clause-grows
returns-clause-grows c = c.laws.ensures c.args.table.now c.type_and_attribute.new.table c.requires c.in_ok-ty.ensures.grows
