use Rattle.std.proofs.Common.{sym, refl, ◌∙◌, ap, arith, length}
use Rattle.eo_base.proofs.Answering.{tells_on}
use Rattle.eo_names.specs.Meanings.{meant_before, word_of}
use Rattle.eo_elab.specs.Meaning.{count}
use Rattle.eo_names.specs.Scopes.{file_kind_in}
use Rattle.eo_names.specs.Refused.{told}
use Rattle.eo_names.specs.Symbols.{read_meant}
use Rattle.eo_elab.specs.Forms.{word_application}
use Rattle.eo_elab.specs.Worlds.{place, sexps, word_in, meant_in, underscore_in}
use Rattle.eo_elab.proofs.Giving.{formed_fault, formed_on}
use Rattle.eo_elab.proofs.PlanLemmas.{arrow_use, arrow_few, counted, named_word}
use Rattle.eo_elab.proofs.plan.form_by_word.Goals as goal

pub returns-in-Underscore-clause-form : goal.returns-in-Underscore-clause-form
returns-in-Underscore-clause-form c =
    let t = c.args.table.now in
    let w = place t c.args.sig.now c.args.scope.now in
    formed_on w t c.args.args.now c.form_of_underscore.result (word_in w c.args.name.now c.args.args.now) (underscore_in w c.args.args.now)
    (λ parts named_terms. ap (λ v. word_application w.names w.locals (sexps c.args.args.now) parts v (meant_before w.names (count (sexps c.args.args.now)) w.locals c.args.name.now) named_terms) (sym c.in-Underscore.ensures))
    (c.form_of_underscore.ensures.form w t refl)

pub returns-then-len-lt2-clause-form : goal.returns-then-len-lt2-clause-form
returns-then-len-lt2-clause-form c = λ parts named_terms.
    let w = place c.args.table.now c.args.sig.now c.args.scope.now in
    arrow_few w.names w.locals c.args.args.now parts named_terms c.args.table.now.trees (meant_before w.names (count (sexps c.args.args.now)) w.locals c.args.name.now) (word_of (file_kind_in c.args.scope.now) c.args.name.now) c.in-Arrow.ensures (omega arith)

pub returns-else-len-lt2-clause-form : goal.returns-else-len-lt2-clause-form
returns-else-len-lt2-clause-form c = λ parts named_terms.
    let w = place c.args.table.now c.args.sig.now c.args.scope.now in
    arrow_use w.names w.locals c.args.args.now parts named_terms c.args.table.now.trees (meant_before w.names (count (sexps c.args.args.now)) w.locals c.args.name.now) (word_of (file_kind_in c.args.scope.now) c.args.name.now) c.in-Arrow.ensures (omega arith)

pub use_of_meaning-requires-clause-live : goal.use_of_meaning-requires-clause-live
use_of_meaning-requires-clause-live c = c.head_meant-meant.ensures.live (length c.args.table.now.trees) c.requires.ready

pub returns-in_ok-used-in-Name-clause-form : goal.returns-in_ok-used-in-Name-clause-form
returns-in_ok-used-in-Name-clause-form c = λ parts named_terms.
    let w = place c.args.table.now c.args.sig.now c.args.scope.now in
    named_word w c.args.args.now parts named_terms c.args.name.now (sym c.in-Name.ensures)
    ∙ ap (λ m. meant_in w c.args.args.now parts m named_terms) (sym (c.head_meant-meant.ensures.value c.args.table.now.trees ∙ ap (λ n. meant_before w.names n w.locals c.args.name.now) (c.len-in-Name.ensures.value ∙ sym (counted c.args.args.now))))
    ∙ c.in_ok-used-in-Name.ensures.used (file_kind_in c.args.scope.now) w.locals parts named_terms

pub returns-in_err-used-in-Name-clause-form : goal.returns-in_err-used-in-Name-clause-form
returns-in_err-used-in-Name-clause-form c =
    let w = place c.args.table.now c.args.sig.now c.args.scope.now in
    formed_fault w c.args.table.now c.args.args.now _ _ _ c.from_residual.ensures.1
    (λ parts named_terms. tells_on told _ (word_in w c.args.name.now c.args.args.now parts named_terms) (meant_in w c.args.args.now parts (read_meant c.args.table.now.trees c.args.sig.now c.head_meant-meant.result) named_terms)
    (λ f e. named_word w c.args.args.now parts named_terms c.args.name.now (sym c.in-Name.ensures) ∙ ap (λ m. meant_in w c.args.args.now parts m named_terms) (sym (c.head_meant-meant.ensures.value c.args.table.now.trees ∙ ap (λ n. meant_before w.names n w.locals c.args.name.now) (c.len-in-Name.ensures.value ∙ sym (counted c.args.args.now)))) ∙ e)
    (c.in_err-used-in-Name.ensures.used (file_kind_in c.args.scope.now) w.locals parts named_terms))

pub returns-in-Underscore-clause-fits : goal.returns-in-Underscore-clause-fits
returns-in-Underscore-clause-fits c = c.form_of_underscore.ensures.fits (length c.args.table.now.trees)
