use Rattle.std.proofs.Common.{sym, ◌∙◌, ap, length, ◌≤◌, subst}
use Rattle.std.proofs.lemmas.Bool.{ne_eqb}
use Rattle.eo_base.specs.Limits.{parameters_limit}
use Rattle.eo_names.specs.Ready.{context}
use Rattle.eo_elab.specs.Gives.{world_at}
use Rattle.eo_elab.proofs.PlanLemmas.{macro_use, macro_arity, operator_use, operator_arity}
use Rattle.eo_elab.proofs.plan.use_of_meaning.Goals as goal

pub returns-in-Term-clause-used : goal.returns-in-Term-clause-used
returns-in-Term-clause-used c = rw c.in-Term.is c.use_of_term.ensures.used

pub returns-in-Constant-clause-used : goal.returns-in-Constant-clause-used
returns-in-Constant-clause-used c = rw c.in-Constant.is (c.use_of_constant.ensures.used c.args.table.now.trees)

pub returns-then-len-count-clause-used : goal.returns-then-len-count-clause-used
returns-then-len-count-clause-used c = λ x ls parts named_terms.
    let other = ne_eqb (length c.args.args.now) (length c.macro_of-defined.result.now.params) (λ e. c.if-len-count.true (c.len.ensures.value ∙ e ∙ sym (ap length c.as_slice-count.ensures))) in
    rw c.in-Macro.is (λ k. macro_arity (world_at x (context c.args.table.now.trees c.args.sig.now) ls).names ls c.args.args.now parts c.args.table.now.trees c.args.sig.now c.in-Macro.n c.macro_of-defined.result.now (c.macro_of-defined.ensures.value c.args.table.now.trees) other k named_terms)

pub returns-else-len-count-clause-used : goal.returns-else-len-count-clause-used
returns-else-len-count-clause-used c = λ x ls parts named_terms.
    let same = sym c.len.ensures.value ∙ c.if-len-count.false ∙ ap length c.as_slice-count.ensures in
    rw c.in-Macro.is (λ k. macro_use (world_at x (context c.args.table.now.trees c.args.sig.now) ls).names ls c.args.args.now parts c.args.table.now.trees c.args.sig.now c.in-Macro.n c.macro_of-defined.result.now (c.macro_of-defined.ensures.value c.args.table.now.trees) same k named_terms)

pub returns-else-len-count-clause-below : goal.returns-else-len-count-clause-below
returns-else-len-count-clause-below c = (c.macro_of-defined.ensures.below (length c.args.table.now.trees) c.requires.below).tree

pub returns-else-len-count-clause-suits : goal.returns-else-len-count-clause-suits
returns-else-len-count-clause-suits c =
    let few : length c.macro_of-defined.result.now.params ≤ parameters_limit = (c.macro_of-defined.ensures.below (length c.args.table.now.trees) c.requires.below).few in
    subst (λ n. n ≤ parameters_limit) (sym (sym c.len.ensures.value ∙ c.if-len-count.false ∙ ap length c.as_slice-count.ensures)) few

pub returns-then-len-arity-clause-used : goal.returns-then-len-arity-clause-used
returns-then-len-arity-clause-used c = λ x ls parts named_terms.
    rw c.in-Operator.is (operator_arity (world_at x (context c.args.table.now.trees c.args.sig.now) ls).names ls c.args.args.now parts c.in-Operator.code c.in-Operator.arity (ne_eqb (length c.args.args.now) c.in-Operator.arity (λ e. c.if-len-arity.true (c.len-in-Operator.ensures.value ∙ e))) named_terms)

pub returns-else-len-arity-clause-used : goal.returns-else-len-arity-clause-used
returns-else-len-arity-clause-used c = λ x ls parts named_terms.
    rw c.in-Operator.is (operator_use (world_at x (context c.args.table.now.trees c.args.sig.now) ls).names ls c.args.args.now parts c.args.table.now.trees c.in-Operator.code c.in-Operator.arity (sym c.len-in-Operator.ensures.value ∙ c.if-len-arity.false) named_terms)
