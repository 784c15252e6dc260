-- Commands of reference files that declare.
use Rattle.std.specs.Prelude.{◌≡◌, List, refl}
use Rattle.eo_sexp.specs.Sexp.{Sexp}
use Rattle.eo_shape.specs.declared.Command as code
use Rattle.eo_shape.specs.declared.Command.TheVariants as command
use Rattle.eo_shape.specs.Reading.{read_command}
use Rattle.eo_sig.specs.Signature.{Signature, Macro}
use Rattle.eo_ref.specs.Reference.{declares, by_command}

-- those that neither assert, nor exit, nor are skipped
pub others_declare : (S : Signature) (macros : List Macro) (k : code.Command) → ((s : Sexp) → k ≡ command.Assert s → ⊥) → (k ≡ command.Exit → ⊥) → (k ≡ command.Skip → ⊥)
    → by_command S macros (read_command k) ≡ declares S macros (read_command k)
unfolding by_command
others_declare S macros (command.Assert s) assert exit skip = absurd (assert s refl)
others_declare S macros command.Exit assert exit skip = absurd (exit refl)
others_declare S macros command.Skip assert exit skip = absurd (skip refl)
others_declare S macros k assert exit skip = refl
