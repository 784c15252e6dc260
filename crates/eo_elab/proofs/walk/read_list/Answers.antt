use Rattle.std.proofs.Common.{◌≡◌, ◌+◌, ◌++◌, refl, ap, sym, ◌∙◌, arith}
use Rattle.eo_sexp.specs.Sizes.{size_of_all}
use Rattle.eo_names.specs.Names.{bound_by}
use Rattle.eo_names.specs.Scopes.{bound_in}
use Rattle.eo_base.proofs.Answering.{tells_on}
use Rattle.eo_names.specs.Refused.{told}
use Rattle.eo_elab.specs.Waiting.{inside}
use Rattle.eo_elab.specs.Worlds.{named_terms_in, list_in, parts_in, application_in, form_in, sexps}
use Rattle.eo_elab.specs.declared.waiting.Frame.TheVariants as frame
use Rattle.eo_elab.proofs.Sizes.{none_given, one_given}
use Rattle.eo_elab.proofs.WalkSteps.{of_nothing, of_list}
use Rattle.eo_elab.proofs.Finishing.{goes_on, goes_fault, wait_on, give_on}
use Rattle.eo_elab.proofs.Giving.{named_terms_grown}
use Rattle.eo_names.specs.Readers.{with_named_terms}
use Rattle.std.specs.Prelude.{Ok}
use Rattle.eo_term.specs.Growth.{tree_in}
use Rattle.eo_elab.proofs.walk.read_list.Goals as goal

pub returns-in_default-clause-gives : goal.returns-in_default-clause-gives
returns-in_default-clause-gives c = λ span.
    let w = inside c.args.table.now c.args.sig.now c.args.scope.now c.args.blocks.now in
    let here = named_terms_in c.args.table.now c.args.named_terms.now in
    ap (λ ss. list_in w ss span here) (none_given c.args.terms.now c.in_default.ensures) ∙ of_nothing w.names w.locals here span

pub returns-in_err-form_inside-clause-gives : goal.returns-in_err-form_inside-clause-gives
returns-in_err-form_inside-clause-gives c = λ span.
    let t = c.args.table.now in
    let w = inside t c.args.sig.now c.args.scope.now c.args.blocks.now in
    let here = named_terms_in t c.args.named_terms.now in
    let head = c.in-Some.head in
    let args = c.in-Some.args in
    let parts = parts_in w head args in
    let given = one_given c.args.terms.now head args c.in-Some.ensures in
    let small = ap size_of_all given in
    let first : list_in w c.args.terms.now span here ≡ application_in w head args parts here = ap (λ xs. list_in w xs span here) given ∙ of_list w.names w.locals here head (sexps args) span in
    goes_fault _ _ _ _ _ _ _ _ _ _ _ _ c.from_residual.ensures.1 (tells_on told _ (list_in w c.args.terms.now span here) (application_in w head args parts here) (λ f e. first ∙ e) (c.in_err-form_inside.ensures.form parts here))

pub returns-in-Let-clause-gives : goal.returns-in-Let-clause-gives
returns-in-Let-clause-gives c = λ span.
    let t = c.args.table.now in
    let w = inside t c.args.sig.now c.args.scope.now c.args.blocks.now in
    let here = named_terms_in t c.args.named_terms.now in
    let head = c.in-Some.head in
    let args = c.in-Some.args in
    let parts = parts_in w head args in
    let given = one_given c.args.terms.now head args c.in-Some.ensures in
    let small = ap size_of_all given in
    let first : list_in w c.args.terms.now span here ≡ application_in w head args parts here = ap (λ xs. list_in w xs span here) given ∙ of_list w.names w.locals here head (sexps args) span in
    let step : list_in w c.args.terms.now span here ≡ form_in w t args parts c.in_ok-form_inside.field-0 here = first ∙ c.in_ok-form_inside.ensures.form parts here in
    goes_on _ _ _ _ _ _ _ _ _ _ _ _ _ (step ∙ ap (λ f. form_in w t args parts f here) c.in-Let.is) (omega (arith, small)) c.begin_let.ensures.gives

pub returns-in_ok-wait-in-Head-clause-gives : goal.returns-in_ok-wait-in-Head-clause-gives
returns-in_ok-wait-in-Head-clause-gives c = λ span.
    let t = c.args.table.now in
    let w = inside t c.args.sig.now c.args.scope.now c.args.blocks.now in
    let here = named_terms_in t c.args.named_terms.now in
    let head = c.in-Some.head in
    let args = c.in-Some.args in
    let parts = parts_in w head args in
    let given = one_given c.args.terms.now head args c.in-Some.ensures in
    let small = ap size_of_all given in
    let first : list_in w c.args.terms.now span here ≡ application_in w head args parts here = ap (λ xs. list_in w xs span here) given ∙ of_list w.names w.locals here head (sexps args) span in
    let step : list_in w c.args.terms.now span here ≡ form_in w t args parts c.in_ok-form_inside.field-0 here = first ∙ c.in_ok-form_inside.ensures.form parts here in
    wait_on _ _ _ _ _ _ _ _ _ (frame.Head args) head _ c.in_ok-wait-in-Head.ensures refl c.in_ok-form_inside.ensures.some c.requires.ready (step ∙ ap (λ f. form_in w t args parts f here) c.in-Head.is) (omega (arith, small))

pub returns-in-Arguments-clause-gives : goal.returns-in-Arguments-clause-gives
returns-in-Arguments-clause-gives c = λ span.
    let t = c.args.table.now in
    let w = inside t c.args.sig.now c.args.scope.now c.args.blocks.now in
    let here = named_terms_in t c.args.named_terms.now in
    let head = c.in-Some.head in
    let args = c.in-Some.args in
    let parts = parts_in w head args in
    let given = one_given c.args.terms.now head args c.in-Some.ensures in
    let small = ap size_of_all given in
    let first : list_in w c.args.terms.now span here ≡ application_in w head args parts here = ap (λ xs. list_in w xs span here) given ∙ of_list w.names w.locals here head (sexps args) span in
    let step : list_in w c.args.terms.now span here ≡ form_in w t args parts c.in_ok-form_inside.field-0 here = first ∙ c.in_ok-form_inside.ensures.form parts here in
    goes_on _ _ _ _ _ _ _ _ _ _ _ _ _ (step ∙ ap (λ f. form_in w t args parts f here) c.in-Arguments.is) (omega (arith, small)) (c.begin_use.ensures.gives head)

pub returns-in-Annotation-clause-gives : goal.returns-in-Annotation-clause-gives
returns-in-Annotation-clause-gives c = λ span.
    let t = c.args.table.now in
    let w = inside t c.args.sig.now c.args.scope.now c.args.blocks.now in
    let here = named_terms_in t c.args.named_terms.now in
    let head = c.in-Some.head in
    let args = c.in-Some.args in
    let parts = parts_in w head args in
    let given = one_given c.args.terms.now head args c.in-Some.ensures in
    let small = ap size_of_all given in
    let first : list_in w c.args.terms.now span here ≡ application_in w head args parts here = ap (λ xs. list_in w xs span here) given ∙ of_list w.names w.locals here head (sexps args) span in
    let step : list_in w c.args.terms.now span here ≡ form_in w t args parts c.in_ok-form_inside.field-0 here = first ∙ c.in_ok-form_inside.ensures.form parts here in
    goes_on _ _ _ _ _ _ _ _ _ _ _ _ _ (step ∙ ap (λ f. form_in w t args parts f here) c.in-Annotation.is) (omega (arith, small)) c.begin_annotated.ensures.gives

pub returns-in_ok-made-in-Bits-clause-gives : goal.returns-in_ok-made-in-Bits-clause-gives
returns-in_ok-made-in-Bits-clause-gives c = λ span.
    let t = c.args.table.now in
    let w = inside t c.args.sig.now c.args.scope.now c.args.blocks.now in
    let here = named_terms_in t c.args.named_terms.now in
    let head = c.in-Some.head in
    let args = c.in-Some.args in
    let parts = parts_in w head args in
    let given = one_given c.args.terms.now head args c.in-Some.ensures in
    let small = ap size_of_all given in
    let first : list_in w c.args.terms.now span here ≡ application_in w head args parts here = ap (λ xs. list_in w xs span here) given ∙ of_list w.names w.locals here head (sexps args) span in
    let step : list_in w c.args.terms.now span here ≡ form_in w t args parts c.in_ok-form_inside.field-0 here = first ∙ c.in_ok-form_inside.ensures.form parts here in
    let next = c.bit_string.new.table in
    let ls = bound_by c.args.blocks.now ++ bound_in c.args.scope.now in
    let later = named_terms_grown t next c.args.named_terms.now c.requires.named_terms c.bit_string.ensures.grows.now in
    give_on _ _ _ _ _ _ _ _ _ (c.names_law.ensures.stays c.args.sig.now ls t next c.requires.ready c.bit_string.ensures.grows).ready c.in_ok-made-in-Bits.ensures.gives.live (step ∙ ap (λ f. form_in w t args parts f here) c.in-Bits.is ∙ ap (with_named_terms here) c.in_ok-made-in-Bits.ensures.gives.is ∙ ap (λ l. Ok (tree_in next c.in_ok-made-in-Bits.made, l)) (sym later)) (omega arith)
