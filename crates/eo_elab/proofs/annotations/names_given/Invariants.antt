use Rattle.std.proofs.Common.{◌≡◌, false, map}
use Rattle.eo_sexp.specs.Sexp.{sexps_of}
use Rattle.eo_elab.specs.Meaning.{names_given}
use Rattle.eo_elab.proofs.AnnotationLemmas.{behind}
use Rattle.eo_elab.proofs.annotations.names_given.Given as goal

-- the names so far, before those that are left
abbrev pub invariant-loop-s : goal.invariant-loop-s
invariant-loop-s l = names_given false (sexps_of l.attributes) ≡ behind (map (λ name. name.now) l.names.items) (names_given l.named (sexps_of l.s-iterator))
