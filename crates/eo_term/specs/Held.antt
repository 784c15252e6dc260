-- How a table holds its terms.
use Rattle.std.specs.Prelude.{◌≡◌, ℕ, ◌<◌, ◌≤◌, false, List, [], ◌∷◌, ◌++◌, length, take, slice_get, All, Some}
use Rattle.eo_term.specs.declared.node.Info.{Info}
use Rattle.eo_term.specs.declared.node.Node.{Node}
use Rattle.eo_term.specs.declared.table.TheConstants.{HEIGHT_LIMIT}
use Rattle.eo_term.specs.ParamSet.{has}
use Rattle.eo_term.specs.Tree.{Tree, height, arity, is_tall, is_value, is_closed, is_plain, may_be_type, occurs, occurs_openly}
use Rattle.eo_base.specs.Characters.{AreCharacters}
use Rattle.eo_term.specs.Terms.{Terms, tree_at, tree_of, trees_at, PartsBelow, TextsBelow, HasArguments, IsProper, AreApart, Interned, first_trees}
use Rattle.eo_term.specs.Ranges.{HasRange}
use Rattle.eo_term.specs.Keys.{Root}

-- the tree of a root over trees and texts
abbrev pub tree_of_root : List Tree → List (List ℕ) → Root → Tree
tree_of_root ts xs k = tree_of ts xs k.node (trees_at ts k.args)

-- the trees, after those of more entries, each over the trees before it
unfoldable pub trees_after : List (List ℕ) → List Tree → List (Root × Info) → List Tree
trees_after xs ts [] = ts
trees_after xs ts (e ∷ es) = trees_after xs (ts ++ tree_of_root ts xs e.0 ∷ []) es

abbrev pub trees_of : List (List ℕ) → List (Root × Info) → List Tree
trees_of xs es = trees_after xs [] es

-- what is known agrees with the tree
pub record Tells (t : Tree) (s : Info) : Type 0 where
  pub height : s.height ≡ height t
  pub arity : s.arity ≡ arity t
  pub value : s.value ≡ is_value t
  pub closed : s.closed ≡ is_closed t
  pub plain : s.plain ≡ is_plain t
  pub typable : s.typable ≡ may_be_type t
  pub parameters : (i : ℕ) → has s.parameters i ≡ occurs i t
  pub open_parameters : (i : ℕ) → has s.open_parameters i ≡ occurs_openly i t

-- the root has its parts below n, and its texts below m
pub record IsOver (n m : ℕ) (k : Root) : Type 0 where
  pub parts : PartsBelow n k.node
  pub texts : TextsBelow m k.node
  pub args : All (λ j. j < n) k.args
  pub count : HasArguments k.node k.args
  pub proper : IsProper k.node
  pub range : HasRange k.node

-- the entry at i, among those trees and texts
pub record IsEntry (ts : List Tree) (xs : List (List ℕ)) (i : ℕ) (k : Root) (s : Info) : Type 0 where
  pub over : IsOver i (length xs) k
  pub tree : tree_at ts i ≡ tree_of_root ts xs k
  pub tells : Tells (tree_at ts i) s
  pub low : s.height ≤ HEIGHT_LIMIT

-- the entries hold those trees, and those texts
pub record Holds (ts : List Tree) (es : List (Root × Info)) (xs : List (List ℕ)) : Type 0 where
  pub count : length ts ≡ length es
  pub entries : (i : ℕ) (e : Root × Info) → slice_get es i ≡ Some e → IsEntry ts xs i e.0 e.1
  pub apart : AreApart ts
  pub texts_apart : AreApart xs
  pub characters : All AreCharacters xs
  pub first : take 4 ts ≡ first_trees

abbrev pub IsSound : List (Root × Info) → List (List ℕ) → Type 0
IsSound es xs = Holds (trees_of xs es) es xs

-- these are the entries that a table begins with, before there are texts
abbrev pub AreFirst : List (Root × Info) → Type 0
AreFirst es = (xs : List (List ℕ)) → xs ≡ [] → (trees_of xs es ≡ first_trees) × IsSound es xs

-- the tree of a node with these arguments, over a table
abbrev pub tree_over : Terms → Node → List ℕ → Tree
tree_over t d is = tree_of t.trees t.texts d (trees_at t.trees is)

-- the term has that root
pub record HasRoot (t : Terms) (i : ℕ) (r : Root) : Type 0 where
  pub over : IsOver i (length t.texts) r
  pub tree : tree_at t.trees i ≡ tree_of_root t.trees t.texts r

-- the tree is that of term i of the table, and is not too tall
pub record IsThere (t : Terms) (u : Tree) (i : ℕ) : Type 0 where
  pub interned : Interned t u i t
  pub low : is_tall u ≡ false

-- no term of the table has that tree
abbrev pub Lacks : Terms → Tree → Type 0
Lacks t u = (i : ℕ) → i < length t.trees → tree_at t.trees i ≡ u → ⊥
