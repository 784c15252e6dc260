-- What calls say of a table that they take and of the term that they return.
use Rattle.std.specs.Prelude.{◌≡◌, ℕ, ◌<◌, nat_eq, List, length, map, take, Result, Ok, Err}
use Rattle.eo_term.specs.Tree.{Tree, tree_eq}
use Rattle.eo_term.specs.Ranges.{AreInRange}
use Rattle.eo_term.specs.Terms.{Terms, Since, AreApart, AreLow, HaveOlderParts, first_trees, tree_at}

-- the tree of a term of a table
abbrev pub tree_in : Terms → ℕ → Tree
tree_in t i = tree_at t.trees i

-- the trees of several terms
abbrev pub trees_in : Terms → List ℕ → List Tree
trees_in t is = map (tree_at t.trees) is

-- What holds of every table: terms are equal exactly where their numbers are, parts are older terms, no term is too tall, numbers, bit strings and characters are within range, and the constants 0 to 3 come first.
pub record IsTable (t : Terms) : Type 0 where
  pub apart : AreApart t.trees
  pub same : (i j : ℕ) → i < length t.trees → j < length t.trees → tree_at t.trees i ≡ tree_at t.trees j → i ≡ j
  pub equals : (i j : ℕ) → i < length t.trees → j < length t.trees → tree_eq (tree_at t.trees i) (tree_at t.trees j) ≡ nat_eq i j
  pub older : HaveOlderParts t.trees
  pub low : AreLow t.trees
  pub in_range : AreInRange t.trees
  pub first : take 4 t.trees ≡ first_trees

-- The table has grown. Whatever it had grown from before, it has grown from now: so the growth of calls in a row is found without a lemma.
pub record Grows (old new : Terms) : Type 0 where
  pub now : Since old new
  pub since : (t : Terms) → Since t old → Since t new

-- the table is again what it was
pub record IsBack (old new : Terms) : Type 0 where
  pub same : new ≡ old
  pub grows : Grows old new

-- A table is cut at a mark. Whatever it had grown from since that mark was taken, it is that again.
abbrev pub GoesBack : Terms → ℕ × ℕ → Terms → Type 0
GoesBack old m new = (t : Terms) → Grows t old → m ≡ (length t.trees, length t.texts) → IsBack t new

-- the id is that of a term that is there, and this is its tree
pub record IsTerm (t : Terms) (u : Tree) (i : ℕ) : Type 0 where
  pub live : i < length t.trees
  pub tree : tree_at t.trees i ≡ u

-- a call returns the id of this tree, or refuses
abbrev pub Makes : {E : Type 0} → Terms → Result ℕ E → Tree → Type 0
Makes t (Ok i) u = IsTerm t u i
Makes t (Err e) u = Unit {0}
