-- Local names as the program keeps them, with numbers of terms, and the names of trees that they are over a list of trees.
use Rattle.std.specs.Prelude.{◌≡◌, ℕ, zero, suc, ◌<◌, Bool, false, List, [], ◌∷◌, ◌++◌, map, All, bytes_eq}
use Rattle.std.specs.List.{list_any}
use Rattle.eo_term.specs.Tree.{Tree}
use Rattle.eo_term.specs.Terms.{tree_at, SameTrees}
use Rattle.eo_names.specs.declared.locals.LocalName.{LocalName}
use Rattle.eo_names.specs.Contexts.{Local}

abbrev pub local : List ℕ → ℕ → Bool → LocalName
local name id list = record { name = name; id = id; list = list }

abbrev pub read_local : List Tree → LocalName → Local
read_local ts l = record { name = l.name; tree = tree_at ts l.id; list = l.list }

abbrev pub read_locals : List Tree → List LocalName → List Local
read_locals ts ls = map (read_local ts) ls

-- the terms are below n
abbrev pub AreBelow : ℕ → List LocalName → Type 0
AreBelow n ls = All (λ l. l.id < n) ls

-- what a `let` or a binder binds

abbrev pub Binding : Type 0
Binding = List ℕ × ℕ

abbrev pub binding_local : Binding → LocalName
binding_local b = local b.0 b.1 false

abbrev pub BindingsBelow : ℕ → List Binding → Type 0
BindingsBelow n bs = All (λ (b : Binding). b.1 < n) bs

abbrev pub names_in : List Binding → List ℕ → Bool
names_in bs name = list_any (λ (b : Binding). bytes_eq b.0 name) bs

-- names with the trees of their terms
abbrev pub read_pairs : List Tree → List Binding → List (List ℕ × Tree)
read_pairs ts bs = map (λ (b : Binding). (b.0, tree_at ts b.1)) bs

-- where trees stay, one more name is read after those that were there
abbrev pub ReadsOneMore : List Binding → List ℕ → ℕ → List Binding → Type 0
ReadsOneMore old name id new =
    (n : ℕ) (ts us : List Tree) → BindingsBelow n old → SameTrees n ts us → read_pairs us new ≡ read_pairs ts old ++ (name, tree_at us id) ∷ []

-- another term at a place
abbrev pub with_term : List Binding → ℕ → ℕ → List Binding
with_term [] i t = []
with_term (b ∷ bs) zero t = (b.0, t) ∷ bs
with_term (b ∷ bs) (suc i) t = b ∷ with_term bs i t

-- other terms, in order
abbrev pub with_terms : List Binding → List ℕ → List Binding
with_terms [] is = []
with_terms (b ∷ bs) [] = b ∷ bs
with_terms (b ∷ bs) (i ∷ is) = (b.0, i) ∷ with_terms bs is

-- what these bind, the innermost first
abbrev pub bound_by : List (List Binding) → List LocalName
bound_by [] = []
bound_by (bs ∷ blocks) = map binding_local bs ++ bound_by blocks
