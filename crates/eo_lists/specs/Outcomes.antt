-- What the program returns, by the definitions of lists.
use Rattle.std.specs.Prelude.{◌≡◌, ℕ, ◌<◌, true, List, length, Option, Some, None, Result, Ok, Err}
use Rattle.eo_term.specs.declared.OpName.{OpName}
use Rattle.eo_term.specs.declared.table.TermRefused.{TermRefused}
use Rattle.eo_term.specs.declared.table.TermRefused.TheVariants as refused
use Rattle.eo_term.specs.Growth.{tree_in, trees_in}
use Rattle.eo_term.specs.Operators.{operator, OnLists}
use Rattle.eo_term.specs.Terms.{Terms}
use Rattle.eo_term.specs.Tree.{Tree, is_tall}
use Rattle.eo_sig.specs.Reading.{Kept, signature}
use Rattle.eo_lists.specs.Lists.{list_value}

abbrev pub IsListOperator : OpName → Type 0
IsListOperator o = (operator o).group ≡ OnLists

-- the value is the tree of a term that is there
pub record IsTreeOf (t : Terms) (o : Option Tree) (i : ℕ) : Type 0 where
  pub live : i < length t.trees
  pub value : o ≡ Some (tree_in t i)

-- the value would be too tall
pub record IsTooTall (o : Option Tree) : Type 0 where
  pub tree : Tree
  pub value : o ≡ Some tree
  pub tall : is_tall tree ≡ true

-- The value is refused for this: it would be too tall. There may be no memory left whatever it is.
abbrev pub IsRefusedFor : TermRefused → Option Tree → Type 0
IsRefusedFor refused.Tall o = IsTooTall o
IsRefusedFor (refused.Memory e) o = Unit {0}

-- A call returns this value of an operator, or that there is none, or refuses it.
abbrev pub GivesList : Terms → Result (Option ℕ) TermRefused → Option Tree → Type 0
GivesList t (Ok (Some i)) o = IsTreeOf t o i
GivesList t (Ok None) o = o ≡ None
GivesList t (Err e) o = IsRefusedFor e o

-- the value of an operator of these arguments
abbrev pub value_in : Kept → Terms → OpName → List ℕ → Option Tree
value_in k t op is = list_value (signature t.trees k) op (trees_in t is)
