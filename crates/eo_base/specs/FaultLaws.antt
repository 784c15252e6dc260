-- What makes faults different.
use Rattle.std.specs.Prelude.{◌≡◌}
use Rattle.eo_base.specs.declared.FaultName.{FaultName}
use Rattle.eo_base.specs.Faults.{number}
use Rattle.eo_base.specs.FaultTexts.{text}

-- equal numbers only for equal faults
abbrev pub HaveOwnNumbers : Type 0
HaveOwnNumbers = (m n : FaultName) → number m ≡ number n → m ≡ n

-- equal texts only for equal faults
abbrev pub HaveOwnTexts : Type 0
HaveOwnTexts = (m n : FaultName) → text m ≡ text n → m ≡ n
