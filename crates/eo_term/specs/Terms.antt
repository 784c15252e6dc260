-- What a table of terms holds, and what its calls say of it.
use Rattle.std.specs.Prelude.{◌≡◌, ℕ, ◌<◌, ◌≤◌, ◌^◌, ◌⊎◌, ◌≢◌, false, List, [], ◌∷◌, ◌++◌, length, take, slice_index_or, AllPairs, All, Contains}
use Rattle.eo_base.specs.Limits.{bits_limit, parameters_limit}
use Rattle.eo_term.specs.declared.OpCode.{OpCode}
use Rattle.eo_term.specs.declared.node.Node.{Node}
use Rattle.eo_term.specs.declared.node.Node.TheVariants as node
pub use Rattle.eo_term.specs.Operators.{arity}
use Rattle.eo_term.specs.Tree.{Tree, Trees, Con, Num, Bits, Str, Par, Var, App, Arr, Qar, Op, NoTree, More, is_tall}
use Rattle.eo_term.specs.Arguments.{count_of}

-- The tree of each term and the characters of each text, in order. The number of a term or a text is its place.
pub record Terms : Type 0 where
  pub trees : List Tree
  pub texts : List (List ℕ)

-- the tree of a term
abbrev pub tree_at : List Tree → ℕ → Tree
tree_at ts i = slice_index_or ts i (Con 0)

-- the characters of a text
abbrev pub text_at : List (List ℕ) → ℕ → List ℕ
text_at xs i = slice_index_or xs i []

-- the trees of several terms
abbrev pub trees_at : List Tree → List ℕ → Trees
trees_at ts [] = NoTree
trees_at ts (i ∷ is) = More (tree_at ts i) (trees_at ts is)

-- the tree that a node is the root of, over those trees and texts. An operator has the arguments that are given
abbrev pub tree_of : List Tree → List (List ℕ) → Node → Trees → Tree
tree_of ts xs (node.Con k) args = Con k
tree_of ts xs (node.Num z) args = Num z
tree_of ts xs (node.Bits w v) args = Bits w v
tree_of ts xs (node.Str s) args = Str (text_at xs s)
tree_of ts xs (node.Par i) args = Par i
tree_of ts xs (node.Var s t) args = Var (text_at xs s) (tree_at ts t)
tree_of ts xs (node.App f x) args = App (tree_at ts f) (tree_at ts x)
tree_of ts xs (node.Arr a b) args = Arr (tree_at ts a) (tree_at ts b)
tree_of ts xs (node.Qar i t b) args = Qar i (tree_at ts t) (tree_at ts b)
tree_of ts xs (node.Op c n) args = Op c args

-- the node's parts are terms below n
abbrev pub PartsBelow : ℕ → Node → Type 0
PartsBelow n (node.Con k) = Unit {0}
PartsBelow n (node.Num z) = Unit {0}
PartsBelow n (node.Bits w v) = Unit {0}
PartsBelow n (node.Str s) = Unit {0}
PartsBelow n (node.Par i) = Unit {0}
PartsBelow n (node.Var s t) = t < n
PartsBelow n (node.App f x) = (f < n) × (x < n)
PartsBelow n (node.Arr a b) = (a < n) × (b < n)
PartsBelow n (node.Qar i t b) = (t < n) × (b < n)
PartsBelow n (node.Op c k) = Unit {0}

-- the node's texts are texts below n
abbrev pub TextsBelow : ℕ → Node → Type 0
TextsBelow n (node.Con k) = Unit {0}
TextsBelow n (node.Num z) = Unit {0}
TextsBelow n (node.Bits w v) = Unit {0}
TextsBelow n (node.Str s) = s < n
TextsBelow n (node.Par i) = Unit {0}
TextsBelow n (node.Var s t) = s < n
TextsBelow n (node.App f x) = Unit {0}
TextsBelow n (node.Arr a b) = Unit {0}
TextsBelow n (node.Qar i t b) = Unit {0}
TextsBelow n (node.Op c k) = Unit {0}

-- the node has these arguments: as many as an operator counts, and none at another node
abbrev pub HasArguments : Node → List ℕ → Type 0
HasArguments (node.Con k) args = args ≡ []
HasArguments (node.Num z) args = args ≡ []
HasArguments (node.Bits w v) args = args ≡ []
HasArguments (node.Str s) args = args ≡ []
HasArguments (node.Par i) args = args ≡ []
HasArguments (node.Var s t) args = args ≡ []
HasArguments (node.App f x) args = args ≡ []
HasArguments (node.Arr a b) args = args ≡ []
HasArguments (node.Qar i t b) args = args ≡ []
HasArguments (node.Op c n) args = length args ≡ n

-- no operator
abbrev pub IsPlain : Node → Type 0
IsPlain (node.Con k) = Unit {0}
IsPlain (node.Num z) = Unit {0}
IsPlain (node.Bits w v) = Unit {0}
IsPlain (node.Str s) = Unit {0}
IsPlain (node.Par i) = Unit {0}
IsPlain (node.Var s t) = Unit {0}
IsPlain (node.App f x) = Unit {0}
IsPlain (node.Arr a b) = Unit {0}
IsPlain (node.Qar i t b) = Unit {0}
IsPlain (node.Op c n) = ⊥

-- an operator counts its arguments
abbrev pub HasCount : Node → Trees → Type 0
HasCount (node.Con k) args = Unit {0}
HasCount (node.Num z) args = Unit {0}
HasCount (node.Bits w v) args = Unit {0}
HasCount (node.Str s) args = Unit {0}
HasCount (node.Par i) args = Unit {0}
HasCount (node.Var s t) args = Unit {0}
HasCount (node.App f x) args = Unit {0}
HasCount (node.Arr a b) args = Unit {0}
HasCount (node.Qar i t b) args = Unit {0}
HasCount (node.Op c n) args = count_of args ≡ n

-- an operator of the language takes as many arguments, a program up to the limit
abbrev pub HasArity : OpCode → ℕ → Type 0
HasArity (OpCode.Builtin o) n = n ≡ arity o
HasArity (OpCode.Prog p) n = n ≤ parameters_limit

-- a bit string fits its width, a parameter is one of a declaration's, and an operator has its number of arguments
abbrev pub IsProper : Node → Type 0
IsProper (node.Con k) = Unit {0}
IsProper (node.Num z) = Unit {0}
IsProper (node.Bits w v) = (w ≤ bits_limit) × (v < 2 ^ w)
IsProper (node.Str s) = Unit {0}
IsProper (node.Par i) = i < parameters_limit
IsProper (node.Var s t) = Unit {0}
IsProper (node.App f x) = Unit {0}
IsProper (node.Arr a b) = Unit {0}
IsProper (node.Qar i t b) = Unit {0}
IsProper (node.Op c n) = HasArity c n

-- no two are the same
abbrev pub AreApart : {X : Type 0} → List X → Type 0
AreApart {X} xs = AllPairs {X = X} (λ x y. x ≢ y) xs

-- no tree is too tall
abbrev pub AreLow : List Tree → Type 0
AreLow ts = (i : ℕ) → i < length ts → is_tall (tree_at ts i) ≡ false

-- each of the trees is among those
abbrev pub AreAmong : List Tree → Trees → Type 0
AreAmong ts NoTree = Unit {0}
AreAmong ts (More u us) = Contains ts u × AreAmong ts us

-- each part of the tree's root is among those
abbrev pub HasPartsAmong : List Tree → Tree → Type 0
HasPartsAmong ts (Con k) = Unit {0}
HasPartsAmong ts (Num z) = Unit {0}
HasPartsAmong ts (Bits w v) = Unit {0}
HasPartsAmong ts (Str s) = Unit {0}
HasPartsAmong ts (Par i) = Unit {0}
HasPartsAmong ts (Var s t) = Contains ts t
HasPartsAmong ts (App f x) = Contains ts f × Contains ts x
HasPartsAmong ts (Arr a b) = Contains ts a × Contains ts b
HasPartsAmong ts (Qar i t b) = Contains ts t × Contains ts b
HasPartsAmong ts (Op c us) = AreAmong ts us

-- the parts of each tree are before it
abbrev pub HaveOlderParts : List Tree → Type 0
HaveOlderParts ts = (i : ℕ) → i < length ts → HasPartsAmong (take i ts) (tree_at ts i)

-- the terms that each table begins with
abbrev pub first_trees : List Tree
first_trees = Con 0 ∷ Con 1 ∷ Con 2 ∷ Con 3 ∷ []

-- the texts at the tree's root are among those
abbrev pub HasTextsOf : List (List ℕ) → Tree → Type 0
HasTextsOf xs (Con k) = Unit {0}
HasTextsOf xs (Num z) = Unit {0}
HasTextsOf xs (Bits w v) = Unit {0}
HasTextsOf xs (Str s) = Contains xs s
HasTextsOf xs (Par i) = Unit {0}
HasTextsOf xs (Var s t) = Contains xs s
HasTextsOf xs (App f x) = Unit {0}
HasTextsOf xs (Arr a b) = Unit {0}
HasTextsOf xs (Qar i t b) = Unit {0}
HasTextsOf xs (Op c ts) = Unit {0}

-- A place in the history of a table: its first terms and texts, of which the terms use no other texts.
pub record IsMark (t : Terms) (m : ℕ × ℕ) : Type 0 where
  pub first : 4 ≤ m.0
  pub terms : m.0 ≤ length t.trees
  pub texts : m.1 ≤ length t.texts
  pub among : All (HasTextsOf (take m.1 t.texts)) (take m.0 t.trees)

-- The table has grown: each term and each text is what it was, and each mark is one.
pub record Since (old new : Terms) : Type 0 where
  pub trees : take (length old.trees) new.trees ≡ old.trees
  pub texts : take (length old.texts) new.texts ≡ old.texts
  pub more_trees : length old.trees ≤ length new.trees
  pub more_texts : length old.texts ≤ length new.texts
  pub tree : (i : ℕ) → i < length old.trees → tree_at new.trees i ≡ tree_at old.trees i
  pub text : (i : ℕ) → i < length old.texts → text_at new.texts i ≡ text_at old.texts i
  pub marks : (m : ℕ × ℕ) → IsMark old m → IsMark new m

-- two lists of trees have the same below n
pub record SameTrees (n : ℕ) (ts us : List Tree) : Type 0 where
  pub at : (i : ℕ) → i < n → tree_at us i ≡ tree_at ts i

-- The table new holds the tree t under the number i. It is as before, or has that tree in addition, at the end.
pub record Interned (old : Terms) (t : Tree) (i : ℕ) (new : Terms) : Type 0 where
  pub live : i < length new.trees
  pub tree : tree_at new.trees i ≡ t
  pub texts : new.texts ≡ old.texts
  pub known : Contains old.trees t → new ≡ old
  pub grown : (new.trees ≡ old.trees) ⊎ (new.trees ≡ old.trees ++ t ∷ [])
  pub grows : Since old new
  pub apart : AreApart new.trees

-- The table new holds the text w under the number i. It is as before, or has that text in addition, at the end.
pub record InternedText (old : Terms) (w : List ℕ) (i : ℕ) (new : Terms) : Type 0 where
  pub live : i < length new.texts
  pub text : text_at new.texts i ≡ w
  pub trees : new.trees ≡ old.trees
  pub known : Contains old.texts w → new ≡ old
  pub grown : (new.texts ≡ old.texts) ⊎ (new.texts ≡ old.texts ++ w ∷ [])
  pub grows : Since old new
  pub apart : AreApart new.texts
