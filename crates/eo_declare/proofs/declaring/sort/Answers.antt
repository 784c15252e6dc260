use Rattle.std.proofs.Common.{ap, sym, subst, ◌∙◌}
use Rattle.eo_base.specs.declared.FaultName.TheVariants.{Redeclared}
use Rattle.eo_sig.specs.Signature.{Plain}
use Rattle.eo_term.proofs.Growing.{grows_refl}
use Rattle.eo_declare.specs.Declarations.{declared_sort, plain_constant}
use Rattle.eo_declare.specs.Gives.{GivesConstant}
use Rattle.eo_elab.specs.Worlds.{context_in, context_at}
use Rattle.eo_declare.proofs.CheckedLemmas.{require-yes, require-no}
use Rattle.eo_declare.proofs.Giving.{may_repeat}
use Rattle.eo_declare.proofs.declaring.sort.Goals as goal

pub returns-then-not-may_name_constant-clause-gives : goal.returns-then-not-may_name_constant-clause-gives
unfolding declared_sort
returns-then-not-may_name_constant-clause-gives c = require-no _ Redeclared _ (sym (c.may_name_constant.ensures c.args.table.now.trees) ∙ c.if-not-may_name_constant.true)

pub returns-clause-gives : goal.returns-clause-gives
unfolding declared_sort
returns-clause-gives c =
    let t = c.args.table.now in
    let k = c.args.sig.now in
    let link = require-yes _ Redeclared _ (sym (c.may_name_constant.ensures t.trees) ∙ c.if-not-may_name_constant.false) ∙ ap (λ u. plain_constant (context_at t k c.args.file_kind) c.args.name.now u Plain) (sym c.in_ok-ty.ensures.makes.tree) in
    subst (GivesConstant c.sort_type.new.table c.plain_constant.result) (sym link) (c.plain_constant.ensures.gives t k)

pub returns-clause-may : goal.returns-clause-may
returns-clause-may c =
    let t = c.args.table.now in
    may_repeat (context_in t c.args.sig.now) c.sort_type.new.table.trees c.args.name.now c.plain_constant.result (sym (c.may_name_constant.ensures t.trees) ∙ c.if-not-may_name_constant.false) c.plain_constant.ensures.sound c.plain_constant.ensures.name

pub returns-then-not-may_name_constant-clause-grows : goal.returns-then-not-may_name_constant-clause-grows
returns-then-not-may_name_constant-clause-grows c = c.laws.ensures c.args.table.now c.args.table.now c.requires (grows_refl c.args.table.now)

pub returns-in_err-ty-clause-grows : goal.returns-in_err-ty-clause-grows
returns-in_err-ty-clause-grows c = c.laws.ensures c.args.table.now c.sort_type.new.table c.requires c.in_err-ty.ensures.grows

pub returns-clause-grows : goal.returns-clause-grows
returns-clause-grows c = c.laws.ensures c.args.table.now c.sort_type.new.table c.requires c.in_ok-ty.ensures.grows
