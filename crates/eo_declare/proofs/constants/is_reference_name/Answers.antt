use Rattle.std.proofs.Common.{◌∙◌, ap, sym}
use Rattle.std.specs.Prelude.{Some, option_map}
use Rattle.eo_sig.specs.Reading.{read_named}
use Rattle.eo_declare.specs.Declarations.{is_named_by_reference}
use Rattle.eo_names.specs.Ready.{context}
use Rattle.eo_declare.proofs.constants.is_reference_name.Goals as goal

pub returns-in-Some-Constant : goal.returns-in-Some-Constant
returns-in-Some-Constant c = λ ts.
    let found = c.in-Some-Constant.is ∙ ap Some c.in-Some-Constant.field-0-is in
    let named = sym (c.lookup.ensures.named ts) ∙ ap (option_map read_named) found in
    c.is_reference_constant.ensures ts ∙ sym (ap (is_named_by_reference (context ts c.args.sig.now) c.args.name.now) named)
