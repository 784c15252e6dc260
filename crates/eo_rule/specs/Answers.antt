-- What the program returns, by the checks of a use of a rule.
use Rattle.std.specs.Prelude.{◌≡◌, ℕ, ◌<◌, length, Option, Some, None, Result, Ok, Err}
use Rattle.eo_base.specs.declared.FaultName.{FaultName}
use Rattle.eo_base.specs.declared.FaultName.TheVariants as fault
use Rattle.eo_base.specs.Answers.{Gives}
use Rattle.eo_base.specs.Checks.{Checked, Passed, passed}
use Rattle.eo_term.specs.declared.table.TermRefused.{TermRefused}
use Rattle.eo_term.specs.declared.table.TermRefused.TheVariants as term
use Rattle.eo_type.specs.declared.refused.TypeRefused.{TypeRefused}
use Rattle.eo_type.specs.declared.refused.TypeRefused.TheVariants as kind
use Rattle.eo_eval.specs.declared.evaluator.EvalRefused.{EvalRefused}
use Rattle.eo_eval.specs.declared.evaluator.EvalRefused.TheVariants as eval
use Rattle.eo_stack.specs.declared.Outcome as code_outcome
use Rattle.eo_eval.specs.Faults.{value_or_fault}
use Rattle.eo_eval.specs.Outcomes.{IsValueOf, MayBeValue}
use Rattle.eo_stack.specs.Reading.{outcome_in}
use Rattle.eo_term.specs.Growth.{tree_in}
use Rattle.eo_term.specs.Terms.{Terms}
use Rattle.eo_term.specs.Tree.{Tree}
use Rattle.eo_pattern.specs.Matching.{Assignment}
use Rattle.eo_pattern.specs.Slots.{Slots, held, AreBelow}
use Rattle.eo_rule.specs.declared.refused.RuleRefused.{RuleRefused}
use Rattle.eo_rule.specs.declared.refused.RuleRefused.TheVariants as refused

-- the fault of a refusal; out of memory has none
abbrev pub told : RuleRefused → Option FaultName
told (refused.Fault name) = Some name
told (refused.Memory e) = None

-- a term that was not made
abbrev pub of_term : TermRefused → RuleRefused
of_term term.Tall = refused.Fault fault.TermHeight
of_term (term.Memory e) = refused.Memory e

-- a type that was not found
abbrev pub of_type : TypeRefused → RuleRefused
of_type kind.NumberRange = refused.Fault fault.NumberRange
of_type kind.Tall = refused.Fault fault.TermHeight
of_type (kind.Memory e) = refused.Memory e

-- out of memory while a term is evaluated
abbrev pub of_eval : EvalRefused → RuleRefused
of_eval (eval.Memory e) = refused.Memory e

-- the id of the term that is found, or the fault. There may be no memory left whatever is found.
abbrev pub GivesTerm : Terms → Result ℕ RuleRefused → Checked Tree → Type 0
GivesTerm t r o = Gives told (λ (i : ℕ). i < length t.trees) (tree_in t) r o

-- a check passes, or returns its fault
abbrev pub Passes : Result (Unit {0}) RuleRefused → Checked Passed → Type 0
Passes r o = Gives told (λ (u : Unit {0}). Unit {0}) (λ u. passed) r o

-- what is held is the assignment that is found
abbrev pub GivesAssignment : Terms → Result (Unit {0}) RuleRefused → Slots → Checked Assignment → Type 0
GivesAssignment t r s o = Gives told (λ (u : Unit {0}). AreBelow (length t.trees) s) (λ u. held t.trees s) r o

-- the value with which an evaluation ended, or the fault that it ended with none
abbrev pub GivesValue : code_outcome.Outcome → Result ℕ RuleRefused → Type 0
GivesValue o r = (t : Terms) → MayBeValue t o → GivesTerm t r (value_or_fault (outcome_in t.trees o))

-- The term is a value, and among the formulas of a kind there is that of the term alone.
pub record IsOnly (t : Terms) (Is : Tree → Type 0) (i : ℕ) : Type 0 where
  pub value : IsValueOf t i
  pub one : Is (tree_in t i)
  pub none_else : (formula : Tree) → Is formula → formula ≡ tree_in t i

-- Where there is a fault, there is no formula of the kind.
abbrev pub IsNoneAfter : RuleRefused → (Tree → Type 0) → Type 0
IsNoneAfter (refused.Fault name) Is = (formula : Tree) → Is formula → ⊥
IsNoneAfter (refused.Memory e) Is = Unit {0}

-- A call returns the only formula of a kind, which is a value. Where it returns a fault, there is none.
abbrev pub AnswersOnly : Terms → Result ℕ RuleRefused → (Tree → Type 0) → Type 0
AnswersOnly t (Ok i) Is = IsOnly t Is i
AnswersOnly t (Err e) Is = IsNoneAfter e Is
