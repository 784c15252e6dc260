use Rattle.std.proofs.Common.{ap, sym, ◌∙◌}
use Rattle.eo_shape.specs.Words.{numeral_of}
use Rattle.eo_elab.specs.Meaning.{bits_of}
use Rattle.eo_elab.proofs.BitLemmas.{of_width}
use Rattle.eo_elab.proofs.bits.bits_of.Goals as goal

pub returns-clause-value : goal.returns-clause-value
returns-clause-value c =
    c.bits_named.ensures.value
    ∙ sym (of_width c.in_ok-symbol.field-0.now (numeral_of c.args.width.now) c.in_ok-width_in.field-0 c.in_ok-width_in.ensures.width)
    ∙ ap (λ o. bits_of o (numeral_of c.args.width.now)) c.in_ok-symbol.ensures
