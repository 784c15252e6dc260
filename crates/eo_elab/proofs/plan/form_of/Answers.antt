use Rattle.std.proofs.Common.{sym, ◌∙◌, ap, Some, None}
use Rattle.eo_shape.specs.Words.{symbol_of}
use Rattle.eo_elab.specs.Forms.{application}
use Rattle.eo_elab.specs.Worlds.{place, sexps, application_in, word_in}
use Rattle.eo_elab.proofs.Giving.{formed_on}
use Rattle.eo_elab.proofs.PlanLemmas.{some_given, none_counted}
use Rattle.eo_elab.proofs.plan.form_of.Goals as goal

pub returns-then-len-eq0-clause-form : goal.returns-then-len-eq0-clause-form
returns-then-len-eq0-clause-form c = λ parts named_terms.
    let w = place c.args.table.now c.args.sig.now c.args.scope.now in
    none_counted w.names w.locals c.args.args.now parts named_terms (symbol_of c.args.head.now) (sym c.len.ensures.value ∙ c.if-len-eq0.true)

pub returns-in-Some-clause-form : goal.returns-in-Some-clause-form
returns-in-Some-clause-form c =
    let w = place c.args.table.now c.args.sig.now c.args.scope.now in
    formed_on w c.args.table.now c.args.args.now c.form_by_word.result (application_in w c.args.head.now c.args.args.now) (word_in w c.in-Some.name.now c.args.args.now)
    (λ parts named_terms. ap (λ x. application w.names w.locals (sexps c.args.args.now) parts x named_terms) (sym c.in-Some.ensures) ∙ some_given w.names w.locals c.args.args.now parts named_terms (Some c.in-Some.name.now) (λ e. c.if-len-eq0.false (c.len.ensures.value ∙ e)))
    c.form_by_word.ensures.form

pub returns-in-None-clause-form : goal.returns-in-None-clause-form
returns-in-None-clause-form c = λ parts named_terms.
    let w = place c.args.table.now c.args.sig.now c.args.scope.now in
    ap (λ x. application w.names w.locals (sexps c.args.args.now) parts x named_terms) (sym c.in-None.ensures)
    ∙ some_given w.names w.locals c.args.args.now parts named_terms None (λ e. c.if-len-eq0.false (c.len.ensures.value ∙ e))
