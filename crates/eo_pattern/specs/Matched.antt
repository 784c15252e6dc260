-- What a search for a match is given, what it returns, and the pairs that were matched before.
use Rattle.std.specs.Prelude.{◌≡◌, ℕ, ◌<◌, Bool, true, not, ◌&&◌, ◌||◌, nat_le, List, [], ◌∷◌, length, All, Some, slice_get}
use Rattle.eo_term.specs.Tree.{Tree, height, is_plain, occurs_in, to_list}
use Rattle.eo_term.specs.Terms.{Terms, tree_at}
use Rattle.eo_term.specs.Growth.{tree_in, trees_in}
use Rattle.eo_term.specs.Arguments.{arguments_of, count_of}
use Rattle.eo_pattern.specs.Matching.{Assignment, Matches}
use Rattle.eo_pattern.specs.Slots.{Slots, AreBelow, HasPars, held}
use Rattle.eo_pattern.specs.Pairs.{Remembered}

-- the arguments of an operator of a table
abbrev pub args_in : Terms → ℕ → List Tree
args_in t i = to_list (arguments_of (tree_in t i))

-- as many terms as patterns, and all are there
pub record ArePaired (t : Terms) (ps us : List ℕ) : Type 0 where
  pub count : length ps ≡ length us
  pub patterns : All (λ i. i < length t.trees) ps
  pub terms : All (λ i. i < length t.trees) us

-- a pattern and a term that are there, and a place for each parameter of the pattern
pub record IsPair (t : Terms) (s : Slots) (p u : ℕ) : Type 0 where
  pub pattern : p < length t.trees
  pub term : u < length t.trees
  pub room : HasPars s (tree_in t p)

-- the same where the values of parameters are there too
pub record MayMatch (t : Terms) (s : Slots) (p u : ℕ) : Type 0 where
  pub pair : IsPair t s p u
  pub below : AreBelow (length t.trees) s

-- a pattern and a term that are there, with so many arguments each, and a place for each parameter of the pattern's
pub record ArePairs (t : Terms) (s : Slots) (p u n : ℕ) : Type 0 where
  pub pattern : p < length t.trees
  pub term : u < length t.trees
  pub count : count_of (arguments_of (tree_in t p)) ≡ n
  pub same : count_of (arguments_of (tree_in t u)) ≡ n
  pub room : (i : ℕ) → occurs_in i (args_in t p) ≡ true → i < length s.values

-- over the trees of t, the slots new extend the slots old by just the parameters of the patterns, and make the patterns equal to the trees
abbrev pub MatchedTrees : Terms → Slots → List Tree → List Tree → Slots → Type 0
MatchedTrees t old ps us new = Matches (held t.trees old) ps us (held t.trees new)

-- over the trees of t, no assignment extends the slots in that way
abbrev pub UnmatchedTrees : Terms → Slots → List Tree → List Tree → Type 0
UnmatchedTrees t s ps us = (σ : Assignment) → Matches (held t.trees s) ps us σ → ⊥

-- both for patterns and terms by their numbers
abbrev pub Matched : Terms → Slots → List ℕ → List ℕ → Slots → Type 0
Matched t old patterns terms new = MatchedTrees t old (trees_in t patterns) (trees_in t terms) new

abbrev pub Unmatched : Terms → Slots → List ℕ → List ℕ → Type 0
Unmatched t s patterns terms = UnmatchedTrees t s (trees_in t patterns) (trees_in t terms)

-- a pattern that may have many parts: it is tall, or has an operator over parts of its own
abbrev pub is_large : Tree → Bool
is_large p = nat_le 8 (height p) || (nat_le 3 (height p) && not (is_plain p))

-- the pattern p is kept with the term t
pub record IsKept (pairs : Remembered) (p t : ℕ) : Type 0 where
  pub used : pairs.used ≡ true
  pub entry : slice_get pairs.entries p ≡ Some (record { round = pairs.round; term = t })

-- each pattern that is kept becomes its term by σ
pub record AreMatched (ts : List Tree) (σ : Assignment) (pairs : Remembered) : Type 0 where
  pub each : (p t : ℕ) → IsKept pairs p t → Matches σ (tree_at ts p ∷ []) (tree_at ts t ∷ []) σ
