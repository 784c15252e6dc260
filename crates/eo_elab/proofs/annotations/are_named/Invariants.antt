use Rattle.std.proofs.Common.{◌≡◌, false}
use Rattle.std.specs.Prelude.{is_some}
use Rattle.eo_sexp.specs.Sexp.{sexps_of}
use Rattle.eo_elab.specs.Meaning.{names_given}
use Rattle.eo_elab.proofs.annotations.are_named.Given as goal

abbrev pub invariant-loop-s : goal.invariant-loop-s
invariant-loop-s l = is_some (names_given false (sexps_of l.attributes)) ≡ is_some (names_given l.named (sexps_of l.s-iterator))
