-- What the parts of the program return: terms taken apart and made, items by their ids, and counts of them.
use Rattle.std.specs.Prelude.{◌≡◌, if◌then◌else◌, ℕ, suc, nat_eq, nat_le, ◌<◌, Bool, List, ◌++◌, length, All, Option, Some, None, option_map, Result}
use Rattle.std.specs.List.{list_all}
use Rattle.std.specs.Map.{lookup}
use Rattle.std.specs.Option.{option_map_or}
use Rattle.eo_term.specs.declared.OpName.{OpName}
use Rattle.eo_term.specs.declared.table.TermRefused.{TermRefused}
use Rattle.eo_term.specs.Growth.{tree_in, trees_in, Grows}
use Rattle.eo_term.specs.Terms.{Terms}
use Rattle.eo_term.specs.Tree.{Tree, App, tree_eq}
use Rattle.eo_sig.specs.Reading.{Kept, signature}
use Rattle.eo_lists.specs.declared.spelling.Link.{Link}
use Rattle.eo_lists.specs.declared.spelling.Spelling.{Spelling}
use Rattle.eo_lists.specs.Lists.{link, spell, spelled, terminator_of_tree, by_operator}
use Rattle.eo_lists.specs.Outcomes.{IsTreeOf, GivesList}

-- the terminator of a term that is a constant, if it has one
abbrev pub terminator_in : Kept → Terms → ℕ → Option Tree
terminator_in k t i = terminator_of_tree (signature t.trees k) (tree_in t i)

-- the id of the tree, if there is one
abbrev pub GivesTree : Terms → Option ℕ → Option Tree → Type 0
GivesTree t (Some i) o = IsTreeOf t o i
GivesTree t None o = o ≡ None

-- the constant and its terminator are terms that are there
pub record IsSpelling (t : Terms) (s : Spelling) : Type 0 where
  pub fun : s.fun < length t.trees
  pub end : s.end < length t.trees

-- they are, and a term that may spell a list
pub record IsOver (t : Terms) (s : Spelling) (i : ℕ) : Type 0 where
  pub form : IsSpelling t s
  pub list : i < length t.trees

-- the list that a term spells
abbrev pub spelled_in : Terms → Spelling → ℕ → Option (List Tree)
spelled_in t s i = spelled (tree_in t s.fun) (tree_in t s.end) (tree_in t i)

-- what spells the items and then those of the list that a term spells, if it spells one
abbrev pub put_in : Terms → Spelling → List ℕ → ℕ → Option Tree
put_in t s is i = option_map (λ ys. spell (tree_in t s.fun) (tree_in t s.end) (trees_in t is ++ ys)) (spelled_in t s i)

-- the value of an operator, by its arguments after the constant
abbrev pub by_operator_in : Terms → Spelling → OpName → List ℕ → Option Tree
by_operator_in t s op is = by_operator (tree_in t s.fun) (tree_in t s.end) op (trees_in t is)

-- a call returns the value of an operator, by its arguments after the constant, and the table has grown
pub record Operates (old : Terms) (s : Spelling) (op : OpName) (is : List ℕ) (new : Terms) (result : Result (Option ℕ) TermRefused) : Type 0 where
  pub gives : GivesList new result (by_operator_in old s op is)
  pub grows : Grows old new

-- items that are terms, and that a term spells
pub record AreItems (t : Terms) (s : Spelling) (i : ℕ) (is : List ℕ) : Type 0 where
  pub live : All (λ j. j < length t.trees) is
  pub items : spelled_in t s i ≡ Some (trees_in t is)

-- the items that a term spells, or none where it spells no list
abbrev pub Reads : Terms → Spelling → ℕ → Option (List ℕ) → Type 0
Reads t s i (Some is) = AreItems t s i is
Reads t s i None = spelled_in t s i ≡ None

-- an item and what spells the rest, both older terms
pub record IsLink (t : Terms) (f i a b : ℕ) : Type 0 where
  pub item : a < i
  pub rest : b < i
  pub tree : tree_in t i ≡ link (tree_in t f) (tree_in t a) (tree_in t b)

-- the item and the rest of a tree that puts f before an item and a rest
abbrev pub unlinked : Tree → Tree → Option (Tree × Tree)
unlinked f (App (App g a) t) = if tree_eq g f then Some (a, t) else None
unlinked f _ = None

-- what a term is taken apart to: an item and the rest, or it spells no list that goes on
abbrev pub Unlinks : Terms → ℕ → ℕ → Option Link → Type 0
Unlinks t f i (Some l) = IsLink t f i l.item l.rest
Unlinks t f i None = unlinked (tree_in t f) (tree_in t i) ≡ None

-- an item put before what is spelled so far, for folds from the left
abbrev pub onto : Tree → Tree → Tree → Tree
onto f t a = link f a t

-- how often an id was counted
abbrev pub counted : List (ℕ × ℕ) → ℕ → ℕ
counted m k = option_map_or (λ (n : ℕ). n) (lookup (nat_eq k) m) 0

-- one more of an id was counted
abbrev pub CountsOne : ℕ → (old new : List (ℕ × ℕ)) → Type 0
CountsOne id old new = (k : ℕ) → counted new k ≡ (if nat_eq id k then suc (counted old k) else counted old k)

-- none of the items was counted more often the second time
abbrev pub are_covered : (there here : List (ℕ × ℕ)) → List ℕ → Bool
are_covered there here is = list_all (λ i. nat_le (counted here i) (counted there i)) is
