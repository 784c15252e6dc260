use Rattle.std.proofs.Common.{sym, ◌∙◌, ap, arith}
use Rattle.eo_sexp.specs.Sexp.{sexps_of}
use Rattle.eo_names.specs.Ready.{context}
use Rattle.eo_elab.specs.Gives.{world_at}
use Rattle.eo_elab.specs.Forms.{collector_of}
use Rattle.eo_elab.proofs.PlanLemmas.{bound_use, folded_use, folded_few}
use Rattle.eo_elab.proofs.plan.use_of_constant.Goals as goal

pub returns-in-Some-clause-used : goal.returns-in-Some-clause-used
returns-in-Some-clause-used c = λ ts x ls parts named_terms.
    let given = sexps_of c.args.args.now in
    λ k. bound_use (world_at x (context ts c.args.sig.now) ls).names ls c.args.args.now parts ts c.args.k c.in-Some.collector
    (sym c.in-Some.is ∙ c.collector_of.ensures ts ∙ ap (λ a. collector_of a given) (c.attribute_of.ensures.value ts)) k named_terms

pub returns-then-len-least_of-clause-used : goal.returns-then-len-least_of-clause-used
returns-then-len-least_of-clause-used c = λ ts x ls parts named_terms.
    let given = sexps_of c.args.args.now in
    λ k. folded_few (world_at x (context ts c.args.sig.now) ls).names ls c.args.args.now parts c.args.k
    (sym c.in-None.is ∙ c.collector_of.ensures ts ∙ ap (λ a. collector_of a given) (c.attribute_of.ensures.value ts)) (omega (arith, c.least_of.ensures ts)) k named_terms

pub returns-else-len-least_of-clause-used : goal.returns-else-len-least_of-clause-used
returns-else-len-least_of-clause-used c = λ ts x ls parts named_terms.
    let given = sexps_of c.args.args.now in
    λ k. folded_use (world_at x (context ts c.args.sig.now) ls).names ls c.args.args.now parts ts c.args.k
    (sym c.in-None.is ∙ c.collector_of.ensures ts ∙ ap (λ a. collector_of a given) (c.attribute_of.ensures.value ts)) (omega (arith, c.least_of.ensures ts)) k named_terms
