use Rattle.std.proofs.Common.{◌≡◌, false}
use Rattle.eo_sexp.specs.Sexp.{sexps_of}
use Rattle.eo_elab.specs.Meaning.{are_attributes}
use Rattle.eo_elab.proofs.annotations.are_attributes.Given as goal

abbrev pub invariant-loop-s : goal.invariant-loop-s
invariant-loop-s l = are_attributes false (sexps_of l.attributes) ≡ are_attributes l.may_be_value (sexps_of l.s-iterator)
