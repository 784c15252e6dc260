use Rattle.std.proofs.Common.{◌≡◌}
use Rattle.eo_sexp.specs.Sexp.{sexps_of}
use Rattle.eo_elab.specs.Meaning.{are_pairs}
use Rattle.eo_elab.proofs.shapes.are_pairs.Given as goal

abbrev pub invariant-loop-s : goal.invariant-loop-s
invariant-loop-s l = are_pairs (sexps_of l.pairs) ≡ are_pairs (sexps_of l.s-iterator)
