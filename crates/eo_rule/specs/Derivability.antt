-- Derivability by the rules of a signature.
use Rattle.std.specs.Prelude.{◌≡◌, ℕ, true, false, List, ◌∷◌, Some, None, Contains}
use Rattle.eo_term.specs.Tree.{Tree, bool_tree, is_value}
use Rattle.eo_sig.specs.Signature.{Signature, IsStage, Rule, rule_at}
use Rattle.eo_type.specs.Types.{Typed, type_of}
use Rattle.eo_rule.specs.Instance.{Instance}

-- a rule of the signature as it was at some stage, which is not marked as unproved
pub record IsRuleOf (S stage : Signature) (rule : Rule) : Type 0 where
  pub number : ℕ
  pub is_stage : IsStage stage S
  pub declared : rule_at stage number ≡ Some rule
  pub no_sorry : rule.sorry ≡ false

-- A formula is derivable from formulas Γ: it is one of them, or a rule gives it from premises that are derivable from Γ, or a rule that discharges a hypothesis gives it from premises that are derivable from Γ and the hypothesis.
pub data Derives (S : Signature) : List Tree → Tree → Type 0 where
  by_assumption : {Γ : List Tree} {formula : Tree} → Contains Γ formula → Derives S Γ formula
  by_rule : {Γ : List Tree} {formula : Tree} (stage : Signature) (rule : Rule) (premises arguments : List Tree) → IsRuleOf S stage rule → Instance stage rule None premises arguments formula → ((premise : Tree) → Contains premises premise → Derives S Γ premise) → Derives S Γ formula
  by_discharge : {Γ : List Tree} {formula : Tree} (stage : Signature) (rule : Rule) (hypothesis : Tree) (premises arguments : List Tree) → IsRuleOf S stage rule → is_value hypothesis ≡ true → type_of stage hypothesis ≡ Typed bool_tree → Instance stage rule (Some hypothesis) premises arguments formula → ((premise : Tree) → Contains premises premise → Derives S (hypothesis ∷ Γ) premise) → Derives S Γ formula
