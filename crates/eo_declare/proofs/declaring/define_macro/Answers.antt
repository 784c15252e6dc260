use Rattle.std.proofs.Common.{sym, ap, ◌∙◌}
use Rattle.std.proofs.lemmas.Result.{IfOk-weaker}
use Rattle.eo_base.specs.declared.FaultName.TheVariants.{Redeclared}
use Rattle.eo_term.proofs.Growing.{grows_refl}
use Rattle.eo_declare.specs.Declarations.{defined, is_free_or_reference}
use Rattle.eo_elab.specs.Worlds.{context_in}
use Rattle.eo_declare.proofs.CheckedLemmas.{require-no}
use Rattle.eo_declare.proofs.declaring.define_macro.Goals as goal

pub returns-then-not-may_declare-clause-gives : goal.returns-then-not-may_declare-clause-gives
unfolding defined
returns-then-not-may_declare-clause-gives c = require-no _ Redeclared _ (sym (c.may_declare.ensures c.args.table.now.trees) ∙ c.if-not-may_declare.true)

pub returns-then-not-may_declare-clause-grows : goal.returns-then-not-may_declare-clause-grows
returns-then-not-may_declare-clause-grows c = c.laws.ensures c.args.table.now c.args.table.now c.requires (grows_refl c.args.table.now)

pub defined_allowed-requires-clause-may : goal.defined_allowed-requires-clause-may
defined_allowed-requires-clause-may c = sym (c.may_declare.ensures c.args.table.now.trees) ∙ c.if-not-may_declare.false

pub returns-clause-may : goal.returns-clause-may
returns-clause-may c =
    IfOk-weaker c.defined_allowed.result _ _ (λ d e. ap (is_free_or_reference (context_in c.args.table.now c.args.sig.now)) e ∙ sym (c.may_declare.ensures c.args.table.now.trees) ∙ c.if-not-may_declare.false) c.defined_allowed.ensures.named
