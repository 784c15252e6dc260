-- What the names of a term may mean, and in which kind of file it is.
use Rattle.std.specs.Prelude.{ℕ, Bool, true, false, ◌&&◌, List, Option, option_map, find, bytes_eq}
use Rattle.std.specs.List.{list_any}
use Rattle.eo_base.specs.declared.FaultName.{FaultName}
use Rattle.eo_sig.specs.Signature.{Signature, Macro, Named, lookup, lookup_count}
use Rattle.eo_term.specs.Tree.{Tree, Par, tree_eq}

-- Which kind of file a term is in.
pub data FileKind : Type 0 where
  -- a signature or a proof
  InProof : FileKind
  -- a reference file
  InReference : FileKind
  -- an `assert` of a reference file
  InAssert : FileKind

-- How many constants a name may have.
pub data Naming : Type 0 where
  -- several, of which no two take the same number of arguments
  Several : Naming
  -- one, so that another is refused, by this fault
  One : (refusal : FaultName) → Naming

-- What the names in a term may mean.
pub record Context : Type 0 where
  pub signature : Signature
  pub macros : List Macro
  pub file_kind : FileKind
  pub naming : Naming

-- A name that a `let`, a binder or a parameter gives a tree. `list` marks a parameter that represents a list.
pub record Local : Type 0 where
  pub name : List ℕ
  pub tree : Tree
  pub list : Bool

abbrev pub is_reference : FileKind → Bool
is_reference InProof = false
is_reference InReference = true
is_reference InAssert = true

abbrev pub is_assert : FileKind → Bool
is_assert InProof = false
is_assert InReference = false
is_assert InAssert = true

-- what a name that is not local means as the head of so many arguments
abbrev pub lookup_head : Naming → Signature → List Macro → List ℕ → (arguments : ℕ) → Option Named
lookup_head Several S macros name n = lookup_count S macros name n
lookup_head (One refusal) S macros name n = lookup S macros name

-- the innermost local of a name
abbrev pub local_named : List Local → List ℕ → Option Tree
local_named locals name = option_map (λ l. l.tree) (find (λ l. bytes_eq l.name name) locals)

-- an argument that represents a list: a parameter marked so, however it is written
abbrev pub is_list : List Local → Tree → Bool
is_list locals (Par i) = list_any (λ l. l.list && tree_eq l.tree (Par i)) locals
is_list locals t = false
