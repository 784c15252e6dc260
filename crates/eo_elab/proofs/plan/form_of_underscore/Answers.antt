use Rattle.std.proofs.Common.{◌≡◌, sym, ◌∙◌, ap, arith, Some, None}
use Rattle.std.specs.Prelude.{option_map}
use Rattle.eo_term.specs.Tree.{Bits}
use Rattle.eo_elab.specs.BitStrings.{read_bits}
use Rattle.eo_elab.proofs.PlanLemmas.{bits_here, underscore_bits, underscore_use, underscore_few}
use Rattle.eo_elab.proofs.plan.form_of_underscore.Goals as goal

pub returns-in-Some-clause-form : goal.returns-in-Some-clause-form
returns-in-Some-clause-form c = λ w t at parts named_terms.
    let here : bits_here w.names.file_kind c.args.args.now ≡ Some (Bits c.in-Some.bits.width c.in-Some.bits.value) =
    ap (λ x. bits_here x c.args.args.now) (at ∙ sym c.file_kind.ensures) ∙ sym c.bit_vector_in.ensures.value ∙ ap (option_map read_bits) c.in-Some.is in
    underscore_bits w.names w.locals c.args.args.now parts named_terms (bits_here w.names.file_kind c.args.args.now) _ here

pub returns-then-len-lt2-clause-form : goal.returns-then-len-lt2-clause-form
returns-then-len-lt2-clause-form c = λ w t at parts named_terms.
    let here : bits_here w.names.file_kind c.args.args.now ≡ None =
    ap (λ x. bits_here x c.args.args.now) (at ∙ sym c.file_kind.ensures) ∙ sym c.bit_vector_in.ensures.value ∙ ap (option_map read_bits) c.in_default.is in
    underscore_few w.names w.locals c.args.args.now parts named_terms (bits_here w.names.file_kind c.args.args.now) here (omega arith)

pub returns-clause-form : goal.returns-clause-form
returns-clause-form c = λ w t at parts named_terms.
    let here : bits_here w.names.file_kind c.args.args.now ≡ None =
    ap (λ x. bits_here x c.args.args.now) (at ∙ sym c.file_kind.ensures) ∙ sym c.bit_vector_in.ensures.value ∙ ap (option_map read_bits) c.in_default.is in
    underscore_use w.names w.locals c.args.args.now parts named_terms t.trees (bits_here w.names.file_kind c.args.args.now) here (omega arith)
