use Rattle.std.proofs.Common.{◌≡◌, ap, sym, subst, ◌∙◌, [], false}
use Rattle.eo_names.specs.Names as names
use Rattle.eo_names.specs.Worlds.{World}
use Rattle.eo_elab.specs.Gives.{NamesGrow}
use Rattle.eo_elab.specs.Worlds.{in_file_kind, context_in, named_term_over}
use Rattle.eo_elab.proofs.AnnotationLemmas.{named_term_next, named_term_reserved, named_term_twice, name_added}
use Rattle.eo_elab.proofs.Giving.{names_same}
use Rattle.eo_elab.proofs.annotations.add_name.Goals as goal

pub returns-then-not-is_free-clause-adds : goal.returns-then-not-is_free-clause-adds
returns-then-not-is_free-clause-adds c = λ t x more.
    let w : World = in_file_kind x (record { names = context_in t c.args.sig.now; locals = [] }) in
    named_term_reserved w.names t c.args.id c.args.named_terms.now c.args.name.now more (sym (c.is_free.ensures t.trees) ∙ c.if-not-is_free.true)

pub returns-then-not-is_free-clause-grows : goal.returns-then-not-is_free-clause-grows
returns-then-not-is_free-clause-grows c = λ t h below. names_same t c.args.named_terms.now below

pub returns-then-contains-clause-adds : goal.returns-then-contains-clause-adds
returns-then-contains-clause-adds c = λ t x more.
    let w : World = in_file_kind x (record { names = context_in t c.args.sig.now; locals = [] }) in
    named_term_twice w.names t c.args.id c.args.named_terms.now c.args.name.now more (sym (c.is_free.ensures t.trees) ∙ c.if-not-is_free.false) (sym c.contains.ensures.bound ∙ c.if-contains.true)

pub returns-then-contains-clause-grows : goal.returns-then-contains-clause-grows
returns-then-contains-clause-grows c = λ t h below. names_same t c.args.named_terms.now below

pub returns-in_err-push-clause-grows : goal.returns-in_err-push-clause-grows
returns-in_err-push-clause-grows c = λ t h below. subst (NamesGrow t c.args.named_terms.now) (sym c.in_err-push.ensures.err) (names_same t c.args.named_terms.now below)

pub returns-clause-adds : goal.returns-clause-adds
returns-clause-adds c = λ t x more.
    let w : World = in_file_kind x (record { names = context_in t c.args.sig.now; locals = [] }) in
    let new : names.names_in c.args.named_terms.now c.args.name.now ≡ false = sym c.contains.ensures.bound ∙ c.if-contains.false in
    named_term_next w.names t c.args.id c.args.named_terms.now c.args.name.now more (sym (c.is_free.ensures t.trees) ∙ c.if-not-is_free.false) new
    ∙ ap (λ bs. named_term_over t c.args.sig.now x bs c.args.id more) (sym c.in_ok-push.ensures.pushed)

pub returns-clause-grows : goal.returns-clause-grows
returns-clause-grows c = λ t h below. subst (NamesGrow t c.args.named_terms.now) (sym c.in_ok-push.ensures.pushed) (name_added t c.args.named_terms.now c.args.name.now c.args.id h below)
