-- What the uses of rules need of a signature.
use Rattle.std.specs.Prelude.{◌≡◌, ℕ, true, List, map, Some}
use Rattle.eo_term.specs.Tree.{Tree, is_value}
use Rattle.eo_sig.specs.declared.records.Param.{Param}
use Rattle.eo_sig.specs.Reading.{Kept, read_parameter, signature}
use Rattle.eo_sig.specs.Signature.{Signature, Rule, terminator, rule_at, are_ordered}

-- Terminators are values, and the type of a rule's parameter uses earlier parameters only.
pub record IsUsable (S : Signature) : Type 0 where
  pub terminators : (f : ℕ) (n : Tree) → terminator S f ≡ Some n → is_value n ≡ true
  pub rules_ordered : (k : ℕ) (r : Rule) → rule_at S k ≡ Some r → are_ordered 0 r.parameters ≡ true

-- the type of each parameter uses earlier parameters only
abbrev pub AreOrdered : List Tree → List Param → Type 0
AreOrdered ts ps = are_ordered 0 (map (read_parameter ts) ps) ≡ true

-- what was usable before is usable now
abbrev pub StaysUsable : List Tree → Kept → Kept → Type 0
StaysUsable ts old new = IsUsable (signature ts old) → IsUsable (signature ts new)
