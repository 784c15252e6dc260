-- How a table keeps the roots of its terms: each under a small key, in which a literal that is not small and a list of arguments that the key does not hold have numbers of their own.
use Rattle.std.specs.Prelude.{◌≡◌, ◌+◌, ℕ, suc, pos, Vec, ◌<◌, ◌≤◌, List, [], ◌∷◌, ◌++◌, ◌⊎◌, length, map, slice_get, slice_index_or, Option, Some, None, All}
use Rattle.std.specs.Map.{keys_of}
use Rattle.std.specs.Global.{Global}
use Rattle.indexmap.specs.IndexMap.{spare}
use Rattle.eo_term.specs.declared.OpCode.{OpCode}
use Rattle.eo_term.specs.declared.node.Node.{Node}
use Rattle.eo_term.specs.declared.node.Node.TheVariants as node
use Rattle.eo_term.specs.declared.node.Literal.{Literal}
use Rattle.eo_term.specs.declared.node.Literal.TheVariants as literal
use Rattle.eo_term.specs.declared.node.Key.{Key}
use Rattle.eo_term.specs.declared.node.Key.TheVariants as key
use Rattle.eo_term.specs.declared.node.Info.{Info}
use Rattle.eo_term.specs.declared.nodes.Nodes.{Nodes}
use Rattle.eo_term.specs.declared.nodes.Shape.{Shape}
use Rattle.eo_term.specs.declared.nodes.Shape.TheVariants as shape
use Rattle.eo_term.specs.SmallNumbers.{IsSmall}
use Rattle.eo_term.specs.Terms.{AreApart}

-- the root of a term: its node, with the arguments where it is an operator
pub record Root : Type 0 where
  pub node : Node
  pub args : List ℕ

abbrev pub IsRoot : Root → Node → List ℕ → Type 0
IsRoot r d is = r ≡ record { node = d; args = is }

abbrev pub literal_node : Literal → Node
literal_node (literal.Num z) = node.Num z
literal_node (literal.Bits w v) = node.Bits w v

abbrev plain : Node → Root
plain d = record { node = d; args = [] }

abbrev pub literal_at : List Literal → ℕ → Literal
literal_at ls l = slice_index_or ls l (literal.Num (pos 0))

abbrev pub list_at : List (List ℕ) → ℕ → List ℕ
list_at as' l = slice_index_or as' l []

-- the root that a key represents, among those literals and lists of arguments
abbrev pub root_of : List Literal → List (List ℕ) → Key → Root
root_of ls as' (key.Con k) = plain (node.Con k)
root_of ls as' (key.Num z) = plain (node.Num z)
root_of ls as' (key.Literal l) = plain (literal_node (literal_at ls l))
root_of ls as' (key.Str s) = plain (node.Str s)
root_of ls as' (key.Par i) = plain (node.Par i)
root_of ls as' (key.Var s t) = plain (node.Var s t)
root_of ls as' (key.App f x) = plain (node.App f x)
root_of ls as' (key.Arr a b) = plain (node.Arr a b)
root_of ls as' (key.Qar i t b) = plain (node.Qar i t b)
root_of ls as' (key.Pair o is) = record { node = node.Op (OpCode.Builtin o) 2; args = is }
root_of ls as' (key.Builtin o n l) = record { node = node.Op (OpCode.Builtin o) n; args = list_at as' l }
root_of ls as' (key.Prog n p l) = record { node = node.Op (OpCode.Prog p) n; args = list_at as' l }

-- an operator whose arguments no key holds itself: a program's, or not two
abbrev pub IsListed : OpCode → ℕ → Type 0
IsListed (OpCode.Builtin o) n = n ≡ 2 → ⊥
IsListed (OpCode.Prog p) n = Unit {0}

-- a number that the key holds is small, P holds of the number of its literal, Q of that of its arguments, where it may not hold these
abbrev pub UsesOnly : (ℕ → Type 0) → (ℕ → Type 0) → Key → Type 0
UsesOnly P Q (key.Con k) = Unit {0}
UsesOnly P Q (key.Num z) = IsSmall z
UsesOnly P Q (key.Literal l) = P l
UsesOnly P Q (key.Str s) = Unit {0}
UsesOnly P Q (key.Par i) = Unit {0}
UsesOnly P Q (key.Var s t) = Unit {0}
UsesOnly P Q (key.App f x) = Unit {0}
UsesOnly P Q (key.Arr a b) = Unit {0}
UsesOnly P Q (key.Qar i t b) = Unit {0}
UsesOnly P Q (key.Pair o is) = Unit {0}
UsesOnly P Q (key.Builtin o n l) = IsListed (OpCode.Builtin o) n × Q l
UsesOnly P Q (key.Prog n p l) = Q l

-- a literal that no key holds itself
abbrev pub IsWide : Literal → Type 0
IsWide (literal.Num z) = IsSmall z → ⊥
IsWide (literal.Bits w v) = Unit {0}

abbrev pub ages_of : {K : Type 0} → List (K × ℕ) → List ℕ
ages_of es = map (λ e. e.1) es

-- what has the number l came when there were at most n terms
abbrev pub IsOld : List ℕ → ℕ → ℕ → Type 0
IsOld ages n l = (l < length ages) × (slice_index_or ages l 0 ≤ n)

-- different things, and how many terms there were when each came, of now n terms
pub record IsNumbered {X : Type 0} (n : ℕ) (xs : List X) (ages : List ℕ) : Type 0 where
  pub long : length ages ≡ length xs
  pub apart : AreApart xs
  pub low : (i : ℕ) → i < length ages → slice_index_or ages i 0 ≤ n
  pub rising : (i j : ℕ) → i ≤ j → j < length ages → slice_index_or ages i 0 ≤ slice_index_or ages j 0

abbrev pub literals_of : Nodes → List Literal
literals_of n = keys_of n.literals.entries

abbrev pub list_items : List (Vec ℕ Global × ℕ) → List (List ℕ)
list_items es = map (λ e. e.0.items) es

abbrev pub lists_of : Nodes → List (List ℕ)
lists_of n = list_items n.lists.entries

-- the roots and what is known of them
abbrev pub entries_of : Nodes → List (Root × Info)
entries_of n = map (λ e. (root_of (literals_of n) (lists_of n) e.0, e.1)) n.keys.entries

-- the literal and the arguments of a key were there before term i
abbrev pub IsKeyed : Nodes → ℕ → Key → Type 0
IsKeyed n i k = UsesOnly (IsOld (ages_of n.literals.entries) i) (IsOld (ages_of n.lists.entries) i) k

pub record IsKept (n : Nodes) : Type 0 where
  pub keyed : (i : ℕ) (e : Key × Info) → slice_get n.keys.entries i ≡ Some e → IsKeyed n i e.0
  pub literals : IsNumbered (length n.keys.entries) (literals_of n) (ages_of n.literals.entries)
  pub lists : IsNumbered (length n.keys.entries) (lists_of n) (ages_of n.lists.entries)
  pub wide : All IsWide (literals_of n)

-- the entry at a place has that information
abbrev pub IsAt : List (Root × Info) → ℕ → Info → Type 0
IsAt es i s = (r : Root) × (slice_get es i ≡ Some (r, s))

-- the two parts of an application's key, and none of any other
abbrev pub parts_of : Key → Option (ℕ × ℕ)
parts_of (key.App f x) = Some (f, x)
parts_of k = None

-- no entry has that root
abbrev pub IsNew : List (Root × Info) → Node → List ℕ → Type 0
IsNew es d is = (i : ℕ) (e : Root × Info) → slice_get es i ≡ Some e → IsRoot e.0 d is → ⊥

-- n more terms take no memory, where each takes one key and at most one literal and one list
pub record HasRoom (n : ℕ) (t : Nodes) : Type 0 where
  pub keys : n ≤ spare t.keys
  pub literals : n ≤ spare t.literals
  pub lists : n ≤ spare t.lists

-- n more terms take no memory after one whose key is made, where that one still takes its entry
abbrev pub HasKeyRoom : ℕ → Nodes → Type 0
HasKeyRoom n t = (n + 1 ≤ spare t.keys) × (n ≤ spare t.literals) × (n ≤ spare t.lists)

-- the entry at a place has that root
abbrev pub HasRootAt : List (Root × Info) → ℕ → Node → List ℕ → Type 0
HasRootAt es i d is = (s : Info) × (slice_get es i ≡ Some (record { node = d; args = is }, s))

-- the entry at a place has a key with those parts
abbrev pub HasPartsAt : Nodes → ℕ → Option (ℕ × ℕ) → Type 0
HasPartsAt n i o = (e : Key × Info) × (slice_get n.keys.entries i ≡ Some e) × (o ≡ parts_of e.0)

-- the root is new, and is added at the end
pub record IsAdded (es : List (Root × Info)) (r : Root) (s : Info) (i : ℕ) (fs : List (Root × Info)) : Type 0 where
  pub new : IsNew es r.node r.args
  pub last : i ≡ length es
  pub entries : fs ≡ es ++ (r, s) ∷ []

-- the root has the place i: it was there and nothing changed, or it is added
abbrev pub IsPut : List (Root × Info) → Node → List ℕ → Info → ℕ → List (Root × Info) → Type 0
IsPut es d is s i fs = (HasRootAt es i d is × (fs ≡ es)) ⊎ IsAdded es (record { node = d; args = is }) s i fs

-- the key's numbers are used, and it represents that root
pub record IsKeyOf (n : Nodes) (d : Node) (is : List ℕ) (k : Key) : Type 0 where
  pub live : UsesOnly (λ l. l < length (literals_of n)) (λ l. l < length (lists_of n)) k
  pub root : root_of (literals_of n) (lists_of n) k ≡ record { node = d; args = is }

-- what is to be numbered in the root
abbrev pub IsShape : Node → List ℕ → Shape → Type 0
IsShape d is (shape.Known k) = UsesOnly (λ l. ⊥) (λ l. ⊥) k × ((ls : List Literal) (as' : List (List ℕ)) → root_of ls as' k ≡ record { node = d; args = is })
IsShape d is (shape.Literal l) = (d ≡ literal_node l) × IsWide l
IsShape d is (shape.Applied c n) = (d ≡ node.Op c n) × IsListed c n

-- the key of an operator whose arguments have the number l
abbrev pub applied : OpCode → ℕ → ℕ → Key
applied (OpCode.Builtin o) n l = key.Builtin o n l
applied (OpCode.Prog p) n l = key.Prog n p l

-- x has the number l, and came when there were at most n terms
pub record HasNumber {X : Type 0} (n : ℕ) (xs : List X) (ages : List ℕ) (x : X) (l : ℕ) : Type 0 where
  pub at : slice_get xs l ≡ Some x
  pub old : IsOld ages n l

abbrev pub IsAbsent : {X : Type 0} → List X → X → Type 0
IsAbsent xs x = (l : ℕ) → slice_get xs l ≡ Some x → ⊥

-- things that are numbered still are, and perhaps more
pub record Numbers {X : Type 0} (n : ℕ) (xs : List X) (ages : List ℕ) (ys : List X) (bges : List ℕ) : Type 0 where
  pub numbered : IsNumbered n ys bges
  pub same : (l : ℕ) (x : X) → slice_get xs l ≡ Some x → slice_get ys l ≡ Some x
  pub aged : (l m : ℕ) → IsOld ages m l → IsOld bges m l

-- the same of literals, and of lists of arguments, by their entries
abbrev pub MoreLiterals : ℕ → List (Literal × ℕ) → List (Literal × ℕ) → Type 0
MoreLiterals n es fs = Numbers n (keys_of es) (ages_of es) (keys_of fs) (ages_of fs)

abbrev pub MoreLists : ℕ → List (Vec ℕ Global × ℕ) → List (Vec ℕ Global × ℕ) → Type 0
MoreLists n es fs = Numbers n (list_items es) (ages_of es) (list_items fs) (ages_of fs)

-- the first k are those that came when there were fewer than n terms
pub record IsCut (ages : List ℕ) (n k : ℕ) : Type 0 where
  pub within : k ≤ length ages
  pub older : (i : ℕ) → suc i ≡ k → slice_index_or ages i 0 < n
  pub newer : (i : ℕ) → k ≤ i → i < length ages → n ≤ slice_index_or ages i 0

-- the literals and the lists of n are those of m, and perhaps more
pub record IsMore (m n : Nodes) : Type 0 where
  pub keys : n.keys ≡ m.keys
  pub literals : MoreLiterals (length m.keys.entries) m.literals.entries n.literals.entries
  pub lists : MoreLists (length m.keys.entries) m.lists.entries n.lists.entries
  pub wide : All IsWide (literals_of n)
