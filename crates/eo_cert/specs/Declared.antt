-- What holds of the programs that commands declare.
use Rattle.std.specs.Prelude.{◌≡◌, ℕ, None, Some}
use Rattle.eo_sig.specs.Signature.{Signature, Program, program_at, program_fault}

-- their patterns hold no operator, and each body uses only parameters of its patterns
abbrev pub AreChecked : Signature → Type 0
AreChecked S = (k : ℕ) (p : Program) → program_at S k ≡ Some p → program_fault p ≡ None
