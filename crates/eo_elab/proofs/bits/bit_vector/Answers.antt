use Rattle.std.proofs.Common.{ap, sym, ◌∙◌}
use Rattle.eo_sexp.specs.Sexp.{sexps_of}
use Rattle.eo_elab.specs.Meaning.{bit_vector}
use Rattle.eo_elab.proofs.Sizes.{two_given}
use Rattle.eo_elab.proofs.bits.bit_vector.Goals as goal

pub returns-clause-value : goal.returns-clause-value
returns-clause-value c = c.bits_of.ensures.value ∙ sym (ap (λ xs. bit_vector (sexps_of xs)) (two_given c.args.args.now c.in_ok-name.name c.in_ok-name.width c.in_ok-name.ensures))
