-- What the layers below say of equality, of declarations, of evaluation, of the uses of rules and of derivability.
use Rattle.std.specs.Prelude.{◌≡◌, ℕ, Bool, true, List, [], ◌++◌, Ok, Contains, Decides}
use Rattle.std.specs.List.{list_all}
use Rattle.eo_declare.specs.Declarations.{declared_rule, defined, defined_fun, defined_sort}
use Rattle.eo_elab.specs.Fitting.{FitsTerms, macro_is_bound, named_term_is_closed}
use Rattle.eo_elab.specs.Meaning.{means}
use Rattle.eo_stack.specs.Evaluation.{Value, eval0}
use Rattle.eo_names.specs.Contexts.{Context}
use Rattle.eo_names.specs.Readers.{NamedTerm}
use Rattle.eo_rule.specs.ByRules.{DerivesBy}
use Rattle.eo_rule.specs.Uses.{Use, AreGiven, Concludes, conclusion}
use Rattle.eo_sexp.specs.Sexp.{Sexp}
use Rattle.eo_shape.specs.Shapes.{ParameterShape, RuleShape}
use Rattle.eo_sig.specs.Signature.{Signature, Macro, Rule, are_ordered}
use Rattle.eo_sig.specs.Usable.{IsUsable}
use Rattle.eo_term.specs.Tree.{Tree, is_value, tree_eq}

pub record Layers : Type 0 where
  pub equals : (t u : Tree) → Decides (tree_eq t u) (t ≡ u)
  pub rules : (c : Context) (s : RuleShape) (r : Rule) → FitsTerms c → declared_rule c s ≡ Ok r → are_ordered 0 r.parameters ≡ true
  pub macros : (c : Context) (name : List ℕ) (params : List ParameterShape) (body : Sexp) (m : Macro) → FitsTerms c → defined c name params body ≡ Ok m → macro_is_bound m ≡ true
  pub functions : (c : Context) (name : List ℕ) (params : List ParameterShape) (output body : Sexp) (m : Macro) → FitsTerms c → defined_fun c name params output body ≡ Ok m → macro_is_bound m ≡ true
  pub sorts : (c : Context) (name : List ℕ) (params : List (List ℕ)) (type : Sexp) (m : Macro) → FitsTerms c → defined_sort c name params type ≡ Ok m → macro_is_bound m ≡ true
  pub named_terms : (c : Context) (s : Sexp) (t : Tree) (named_terms : List NamedTerm) → FitsTerms c → means c [] s [] ≡ Ok (t, named_terms) → list_all named_term_is_closed named_terms ≡ true
  pub values : (S : Signature) (t v : Tree) → IsUsable S → eval0 S t ≡ Value v → is_value v ≡ true
  pub concludes : (S : Signature) (number : ℕ) (given : Use) (formula : Tree) → IsUsable S → AreGiven given → conclusion S number given ≡ Ok formula → Concludes S number given formula
  pub weakens : (allowed : List ℕ → Bool) (S : Signature) (Γ Δ : List Tree) (t : Tree) → ((x : Tree) → Contains Γ x → Contains Δ x) → DerivesBy allowed S Γ t → DerivesBy allowed S Δ t
  pub lasts : (allowed : List ℕ → Bool) (S later : Signature) (Γ : List Tree) (t : Tree) → DerivesBy allowed S Γ t → DerivesBy allowed (S ++ later) Γ t
