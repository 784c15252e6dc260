-- Steps of substitution.
use Rattle.std.specs.Prelude.{◌≡◌, ℕ, ◌<◌, ◌≤◌, true, false, List, length, None, Result, Ok, Err}
use Rattle.eo_term.specs.declared.OpCode.{OpCode}
use Rattle.eo_term.specs.Arguments.{arguments_of, count_of}
use Rattle.eo_term.specs.Tree.{Tree, Op, is_tall}
use Rattle.eo_term.specs.Memo.{told, TellsOnly}
use Rattle.eo_term.specs.Terms.{Terms, tree_at, HasArity}
use Rattle.eo_term.specs.Growth.{tree_in}
use Rattle.eo_pattern.specs.Matching.{Assignment, put}
use Rattle.eo_pattern.specs.Slots.{Slots, AreBelow, IsAssigned, IsPut, held}
use Rattle.eo_term.specs.declared.walk.Step.{Step}
use Rattle.eo_term.specs.declared.walk.Step.TheVariants as step

-- the term with the values of its parameters substituted, as a tree
abbrev pub put_in : Terms → Slots → ℕ → Tree
put_in t s i = put (held t.trees s) (tree_in t i)

-- over the trees new, the term v is the term k of the trees ts with the values of its parameters substituted, and it is not too tall
pub record IsMade (σ : Assignment) (ts : List Tree) (k : ℕ) (new : List Tree) (v : ℕ) : Type 0 where
  pub live : v < length new
  pub tree : tree_at new v ≡ put σ (tree_at ts k)
  pub low : is_tall (put σ (tree_at ts k)) ≡ false

-- the tree is this operator over so many arguments
pub record IsOperator (t : Tree) (c : OpCode) (n : ℕ) : Type 0 where
  pub tree : Op c (arguments_of t) ≡ t
  pub count : count_of (arguments_of t) ≡ n
  pub arity : HasArity c n
  pub small : n ≤ 64

-- What is held is to be put in for the parameters of a term: both are there, these are the parameters that have values, and the memo tells what terms become.
pub record IsPutting (t : Terms) (s : Slots) (set : ℕ) (m : List (ℕ × ℕ)) (k : ℕ) : Type 0 where
  pub live : k < length t.trees
  pub below : AreBelow (length t.trees) s
  pub assigned : IsAssigned set s
  pub memo : TellsOnly (IsPut (held t.trees s) t.trees) m

-- the term p is older than the term k, the memo has nothing for it, and where it becomes too tall, so does k
pub record IsNext (σ : Assignment) (ts : List Tree) (memo : List (ℕ × ℕ)) (k p : ℕ) : Type 0 where
  pub older : p < k
  pub untold : told memo p ≡ None
  pub tall : is_tall (put σ (tree_at ts p)) ≡ true → is_tall (put σ (tree_at ts k)) ≡ true

-- the term p is older than the term k, and where it becomes too tall, so does k
pub record IsInside (σ : Assignment) (ts : List Tree) (k p : ℕ) : Type 0 where
  pub older : p < k
  pub tall : is_tall (put σ (tree_at ts p)) ≡ true → is_tall (put σ (tree_at ts k)) ≡ true

-- the terms r are the terms p and q with the values of their parameters substituted
pub record ArePut (σ : Assignment) (ts : List Tree) (p q : ℕ) (r : ℕ × ℕ) : Type 0 where
  pub first : r.0 < length ts
  pub second : r.1 < length ts
  pub first_tree : tree_at ts r.0 ≡ put σ (tree_at ts p)
  pub second_tree : tree_at ts r.1 ≡ put σ (tree_at ts q)

-- the parts p and q of the term k become these terms, or one of them has to be made first
abbrev pub AreKnown : Assignment → List Tree → List (ℕ × ℕ) → ℕ → ℕ → ℕ → Result (ℕ × ℕ) ℕ → Type 0
AreKnown σ ts memo k p q (Ok r) = ArePut σ ts p q r
AreKnown σ ts memo k p q (Err part) = IsNext σ ts memo k part

-- the term k is made, or a part has to be made first
abbrev pub IsStep : Assignment → List Tree → List (ℕ × ℕ) → ℕ → List Tree → Step → Type 0
IsStep σ ts memo k new (step.Made v) = IsMade σ ts k new v
IsStep σ ts memo k new (step.Part p) = IsNext σ ts memo k p
