-- Certificates, computed.
use Rattle.std.specs.Prelude.{◌≡◌, refl, ℕ, List, [], ◌∷◌, ◌++◌, Ok, Err, Option, Some, None, codes}
use Rattle.eo_base.specs.declared.FaultName.{FaultName}
use Rattle.eo_base.specs.declared.FaultName.TheVariants.{BadCertificate, NoFalse}
use Rattle.eo_cert.specs.Recheck.{Fault, Rechecked, recheck}
use Rattle.eo_cert.proofs.Computed.{computed}

-- lines, each ended by a line feed
abbrev pub text : List (List ℕ) → List ℕ
text [] = []
text (l ∷ ls) = l ++ (10 ∷ text ls)

-- what is wrong, if anything
abbrev pub fault : Rechecked → Option Fault
fault (Ok st) = None
fault (Err f) = Some f

abbrev pub at : FaultName → ℕ → ℕ → Option Fault
at name line offset = Some (name, record { line = line; offset = offset })

asserted : fault (recheck (text (codes "R 286173736572742066616c736529" ∷ codes "C 3" ∷ codes "u 0 0" ∷ []))) ≡ None
unfolding computed
asserted = refl

not_asserted : fault (recheck (text (codes "R 286173736572742066616c736529" ∷ codes "C 2" ∷ codes "u 0 0" ∷ []))) ≡ at BadCertificate 3 35
unfolding computed
not_asserted = refl

no_false : fault (recheck (text (codes "R 286173736572742066616c736529" ∷ []))) ≡ at NoFalse 2 31
unfolding computed
no_false = refl

-- a constant that is not declared
undeclared : fault (recheck (text (codes "C 9" ∷ []))) ≡ at BadCertificate 1 0
unfolding computed
undeclared = refl
