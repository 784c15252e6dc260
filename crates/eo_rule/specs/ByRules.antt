-- Derivability by some rules of a signature alone.
use Rattle.std.specs.Prelude.{◌≡◌, ℕ, Bool, true, List, ◌∷◌, Some, None, Contains}
use Rattle.eo_term.specs.Tree.{Tree, bool_tree, is_value}
use Rattle.eo_sig.specs.Signature.{Signature, Rule}
use Rattle.eo_type.specs.Types.{Typed, type_of}
use Rattle.eo_rule.specs.Instance.{Instance}
use Rattle.eo_rule.specs.Derivability.{IsRuleOf}

-- Derivability by the rules whose names pass the test.
pub data DerivesBy (allowed : List ℕ → Bool) (S : Signature) : List Tree → Tree → Type 0 where
  by_assumption : {Γ : List Tree} {formula : Tree} → Contains Γ formula → DerivesBy allowed S Γ formula
  by_rule : {Γ : List Tree} {formula : Tree} (stage : Signature) (rule : Rule) (premises arguments : List Tree) → IsRuleOf S stage rule → allowed rule.name ≡ true → Instance stage rule None premises arguments formula → ((premise : Tree) → Contains premises premise → DerivesBy allowed S Γ premise) → DerivesBy allowed S Γ formula
  by_discharge : {Γ : List Tree} {formula : Tree} (stage : Signature) (rule : Rule) (hypothesis : Tree) (premises arguments : List Tree) → IsRuleOf S stage rule → allowed rule.name ≡ true → is_value hypothesis ≡ true → type_of stage hypothesis ≡ Typed bool_tree → Instance stage rule (Some hypothesis) premises arguments formula → ((premise : Tree) → Contains premises premise → DerivesBy allowed S (hypothesis ∷ Γ) premise) → DerivesBy allowed S Γ formula

-- by any rules
abbrev pub any_rule : List ℕ → Bool
any_rule name = true
