-- Assignments that a line gives by pairs of a parameter and a term.
use Rattle.std.specs.Prelude.{◌≡◌, ℕ, Bool, true, not, ◌&&◌, nat_eq, List, [], ◌∷◌, map, Option, Some, is_some, option_map}
use Rattle.std.specs.List.{list_all, list_any}
use Rattle.std.specs.Cmp.Lexicographic.{pointwise}
use Rattle.eo_term.specs.Tree.{Tree, occurs_in, uses_only, tree_eq}
use Rattle.eo_pattern.specs.Matching.{Assignment, empty, assign, put}
use Rattle.eo_lines.specs.Lines.{Pairs}
use Rattle.eo_cert.specs.Stated.{Stated, term_at, ◌>>=◌, when, each}

-- parameters, and the trees that they become
abbrev pub Given : Type 0
Given = List (ℕ × Tree)

abbrev pub assigned : Given → Assignment
assigned [] = empty
assigned (q ∷ qs) = assign (assigned qs) q.0 q.1

abbrev pub names : Given → ℕ → Bool
names qs i = is_some (assigned qs i)

-- each parameter is given once
abbrev pub each_once : Given → Bool
each_once [] = true
each_once (q ∷ qs) = not (list_any (λ p. nat_eq p.0 q.0) qs) && each_once qs

abbrev pub given_pair : Stated → ℕ × ℕ → Option (ℕ × Tree)
given_pair st q = option_map (λ t. (q.0, t)) (term_at st q.1)

-- what the pairs of a line give
abbrev pub given : Stated → Pairs → Option Given
given st pairs = do
  qs ← each (given_pair st) pairs
  _ ← when (each_once qs)
  Some qs

-- whether the patterns become the trees, and just their parameters are given
abbrev pub matches_by : Given → List Tree → List Tree → Bool
matches_by qs patterns trees =
    list_all (λ q. occurs_in q.0 patterns) qs && (list_all (uses_only (names qs)) patterns && pointwise tree_eq (map (put (assigned qs)) patterns) trees)

-- pairs that give the assignment
pub record HasPairs (σ : Assignment) : Type 0 where
  pub pairs : Given
  pub once : each_once pairs ≡ true
  pub assigns : assigned pairs ≡ σ
