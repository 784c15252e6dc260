-- Steps of settling.
use Rattle.std.specs.Prelude.{◌≡◌, ℕ, ◌<◌, ◌≤◌, List, length, false, Option, Some, None, Result, Ok, Err}
use Rattle.eo_term.specs.declared.OpCode.{OpCode}
use Rattle.eo_term.specs.declared.walk.Step.{Step}
use Rattle.eo_term.specs.declared.walk.Step.TheVariants as step
use Rattle.eo_term.specs.Arguments.{arguments_of, count_of}
use Rattle.eo_term.specs.Growth.{tree_in}
use Rattle.eo_term.specs.Memo.{told}
use Rattle.eo_term.specs.Terms.{Terms, HasArity}
use Rattle.eo_term.specs.Tree.{Op, is_tall}
use Rattle.eo_type.specs.declared.refused.Stop.{Stop}
use Rattle.eo_type.specs.Types.{Typed, settle}
use Rattle.eo_type.specs.Outcomes.{IsTyped, Stops}

-- the term k, settled, is the term v
pub record IsSettled (t : Terms) (k v : ℕ) : Type 0 where
  pub term : k < length t.trees
  pub made : v < length t.trees
  pub typed : settle (tree_in t k) ≡ Typed (tree_in t v)

-- the term k is an operator over so many arguments, and not too tall
pub record IsOperator (t : Terms) (k : ℕ) (code : OpCode) (n : ℕ) : Type 0 where
  pub tree : Op code (arguments_of (tree_in t k)) ≡ tree_in t k
  pub count : count_of (arguments_of (tree_in t k)) ≡ n
  pub arity : HasArity code n
  pub small : n ≤ 64
  pub low : is_tall (tree_in t k) ≡ false

-- what the term k settles to, if that is known; the memo has nothing for a term of which it is not
abbrev pub Knows : Terms → List (ℕ × ℕ) → ℕ → Option ℕ → Type 0
Knows t memo k (Some v) = IsTyped t (settle (tree_in t k)) v
Knows t memo k None = told memo k ≡ None

-- the term p is older than the term k, the memo has nothing for it, and what stops it stops k
pub record IsNext (t : Terms) (memo : List (ℕ × ℕ)) (k p : ℕ) : Type 0 where
  pub older : p < k
  pub untold : told memo p ≡ None
  pub stops : (e : Stop) → Stops e (settle (tree_in t p)) → Stops e (settle (tree_in t k))

-- the term k of the table old is settled, or a part has to be settled first
abbrev pub IsStep : Terms → List (ℕ × ℕ) → ℕ → Terms → Step → Type 0
IsStep old memo k new (step.Made v) = IsTyped new (settle (tree_in old k)) v
IsStep old memo k new (step.Part p) = IsNext old memo k p

-- a walk takes such a step, or ends
abbrev pub GivesStep : Terms → List (ℕ × ℕ) → ℕ → Terms → Result Step Stop → Type 0
GivesStep old memo k new (Ok s) = IsStep old memo k new s
GivesStep old memo k new (Err e) = Stops e (settle (tree_in old k))
