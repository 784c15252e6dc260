-- What an evaluation returns.
use Rattle.std.specs.Prelude.{◌≡◌, ℕ, ◌<◌, true, false, length, Result, Ok, Err}
use Rattle.eo_term.specs.Growth.{tree_in}
use Rattle.eo_term.specs.Terms.{Terms}
use Rattle.eo_term.specs.Tree.{Tree, is_value, is_tall}
use Rattle.eo_sig.specs.Reading.{Kept, signature}
use Rattle.eo_stack.specs.Evaluation.{Outcome, eval0}
use Rattle.eo_stack.specs.Reading.{outcome_in}
use Rattle.eo_eval.specs.declared.evaluator.EvalRefused.{EvalRefused}
use Rattle.eo_stack.specs.declared.Outcome as code_outcome
use Rattle.eo_stack.specs.declared.Outcome.TheVariants as outcome

-- how the evaluation of a term of a table ends
abbrev pub outcome_of : Kept → Terms → ℕ → Outcome Tree
outcome_of k t i = eval0 (signature t.trees k) (tree_in t i)

-- a term that is there, and is a value that is not too tall
pub record IsValueOf (t : Terms) (i : ℕ) : Type 0 where
  pub live : i < length t.trees
  pub value : is_value (tree_in t i) ≡ true
  pub low : is_tall (tree_in t i) ≡ false

abbrev pub MayBeValue : Terms → code_outcome.Outcome → Type 0
MayBeValue t (outcome.Value i) = IsValueOf t i
MayBeValue t _ = Unit {0}

-- an evaluation that ends so is said to end so
pub record HasEnded (t : Terms) (told : code_outcome.Outcome) (o : Outcome Tree) : Type 0 where
  pub outcome : o ≡ outcome_in t.trees told
  pub value : MayBeValue t told

-- the result is how the evaluation ends, unless there is no memory left
abbrev pub GivesOutcome : Terms → Result code_outcome.Outcome EvalRefused → Outcome Tree → Type 0
GivesOutcome t (Ok told) o = HasEnded t told o
GivesOutcome t (Err e) o = Unit {0}
