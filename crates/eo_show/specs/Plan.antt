-- How the members of a value are kept, and what the passes over them find.
use Rattle.std.specs.Prelude.{◌≡◌, ℕ, zero, suc, ◌<◌, Bool, true, false, ◌&&◌, ◌==◌, nat_le, if◌then◌else◌, List, [], ◌∷◌, map, length, slice_index_or, All, Option, Some, None, option_and_then, Result, Ok, Err}
use Rattle.std.specs.Option.{option_map_or}
use Rattle.eo_term.specs.Tree.{Tree, Con, Str, App}
use Rattle.eo_term.specs.Terms.{Terms, tree_at, text_at}
use Rattle.eo_sig.specs.Signature.{Signature}
use Rattle.eo_show.specs.declared.Member.{Member}
use Rattle.eo_show.specs.declared.Member.TheVariants as member
use Rattle.eo_show.specs.declared.Shape.{Shape}
use Rattle.eo_show.specs.declared.Shape.TheVariants as shape
use Rattle.eo_show.specs.declared.lengths.Link.{Link}
use Rattle.eo_show.specs.declared.parts.Pair.{Pair}
use Rattle.eo_sexp.specs.AtomKind.{AtomKind}
use Rattle.eo_sexp.specs.Printing.{printed_atom}
use Rattle.eo_sig.specs.Reading.{Kept, signature}
use Rattle.eo_show.specs.declared.parts.Form as code_form
use Rattle.eo_show.specs.declared.refused.ShowRefused.{ShowRefused}
use Rattle.eo_show.specs.declared.refused.ShowRefused.TheVariants.{Unprintable, Memory}
use Rattle.eo_show.specs.Forms.{Form, Leaf, Folded, Plainly, Function, Variable, arguments_of, list_of, is_short_list, form, parts, takes, joins_plainly, attribute_of}
use Rattle.eo_show.specs.Members.{has_no_spelling}

-- ---- lengths

abbrev pub up_to : ℕ → ℕ → ℕ
up_to bound n = if nat_le bound n then bound else n

-- how many arguments an application has
abbrev pub some_arguments : Tree → ℕ
some_arguments t = up_to 65 (length (arguments_of t))

-- how many items a list has; 0 for what is none
abbrev pub some_items : Signature → Tree → ℕ
some_items S t = up_to 1001 (option_map_or (λ l. length l.1) (list_of S t) 0)

pub record Lengths : Type 0 where
  pub chains : List ℕ
  pub runs : List ℕ

-- the lengths of the first n terms
pub record TellsLengths (S : Signature) (ts : List Tree) (n : ℕ) (l : Lengths) : Type 0 where
  pub chains : length l.chains ≡ n
  pub runs : length l.runs ≡ n
  pub chain : (i : ℕ) → i < n → slice_index_or l.chains i 0 ≡ some_arguments (tree_at ts i)
  pub run : (i : ℕ) → i < n → slice_index_or l.runs i 0 ≡ some_items S (tree_at ts i)

-- the constant, the item and the rest, where a constant is applied to two arguments
abbrev pub parted : Tree → Option (ℕ × Tree × Tree)
parted (App (App (Con c) a) t) = Some (c, a, t)
parted t = None

-- and both arguments are older
abbrev pub Parts : List Tree → ℕ → Option Link → Type 0
Parts ts i (Some l) = (parted (tree_at ts i) ≡ Some (l.constant, tree_at ts l.item, tree_at ts l.rest)) × (l.item < i) × (l.rest < i)
Parts ts i None = parted (tree_at ts i) ≡ None

-- how many items a list has whose rest is t, where t is one of c; 0 for what is none
abbrev pub longer_by : Signature → ℕ → Option (ℕ × Tree × Tree) → Tree → ℕ
longer_by S c None t = 0
longer_by S c (Some p) t = if p.0 == c then (if some_items S t == 0 then 0 else up_to 1001 (suc (some_items S t))) else 0

-- ---- members

abbrev pub member_tree : Terms → Member → Tree
member_tree t (member.Text s) = Str (text_at t.texts s)
member_tree t (member.Term i) = tree_at t.trees i

abbrev pub member_trees : Terms → List Member → List Tree
member_trees t ms = map (member_tree t) ms

abbrev pub is_string : Tree → Bool
is_string (Str s) = true
is_string t = false

-- a text or a term that is there; a string goes by its text
abbrev pub IsLive : Terms → Member → Type 0
IsLive t (member.Text s) = s < length t.texts
IsLive t (member.Term i) = (i < length t.trees) × (is_string (tree_at t.trees i) ≡ false)

-- the member is that of the tree
pub record IsMemberOf (t : Terms) (u : Tree) (m : Member) : Type 0 where
  pub live : IsLive t m
  pub tree : member_tree t m ≡ u

-- the members are those of the trees
pub record AreMembersOf (t : Terms) (us : List Tree) (ms : List Member) : Type 0 where
  pub live : All (IsLive t) ms
  pub trees : member_trees t ms ≡ us

-- ---- forms

abbrev pub shape_of : Form → Shape
shape_of (Leaf k text) = shape.Leaf
shape_of (Folded c args) = shape.Folded c
shape_of (Plainly h args) = shape.Plainly
shape_of (Function a b) = shape.Function
shape_of (Variable s u) = shape.Variable

-- what is kept of a form
pub record IsForm (S : Signature) (t : Terms) (f : Form) (s : Shape) (ms : List Member) : Type 0 where
  pub shape : s ≡ shape_of f
  pub parts : AreMembersOf t (parts S f) ms

-- the first items of a list
abbrev pub first_items : ℕ → Tree → List Tree
first_items zero t = []
first_items (suc n) (App (App (Con c) a) t) = a ∷ first_items n t
first_items (suc n) t = []

abbrev pub applied : Tree → Option (Tree × Tree)
applied (App f x) = Some (f, x)
applied t = None

-- the function and its argument, both older
abbrev pub Applies : List Tree → ℕ → Option Pair → Type 0
Applies ts i (Some p) = (applied (tree_at ts i) ≡ Some (tree_at ts p.fun, tree_at ts p.arg)) × (p.fun < i) × (p.arg < i)
Applies ts i None = applied (tree_at ts i) ≡ None

-- the last arguments of an application, the last first, and what is applied to them
abbrev pub last_arguments : ℕ → Tree → List Tree
last_arguments zero t = []
last_arguments (suc n) (App f x) = x ∷ last_arguments n f
last_arguments (suc n) t = []

abbrev pub without_arguments : ℕ → Tree → Tree
without_arguments zero t = t
without_arguments (suc n) (App f x) = without_arguments n f
without_arguments (suc n) t = t

-- ---- what is known of a term and its parts

-- the lengths of a term
pub record Knows (k : Kept) (t : Terms) (i : ℕ) (l : Lengths) : Type 0 where
  pub within_chains : i < length l.chains
  pub within_runs : i < length l.runs
  pub chain : slice_index_or l.chains i 0 ≡ some_arguments (tree_at t.trees i)
  pub run : slice_index_or l.runs i 0 ≡ some_items (signature t.trees k) (tree_at t.trees i)

abbrev pub KnowsAll : Kept → Terms → Member → Lengths → Type 0
KnowsAll k t (member.Text s) l = Unit {0}
KnowsAll k t (member.Term i) l = Knows k t i l

module _ (S : Signature) where
  -- the constant of a list that is written by its items
  abbrev pub short_list : Tree → Option ℕ
  short_list u = option_and_then (λ l. if is_short_list S l then Some l.0 else None) (list_of S u)

  -- the constant that is written before so many arguments
  abbrev pub folding : Tree → ℕ → Option ℕ
  folding (Con c) n = if takes S c n && joins_plainly (attribute_of S c) n then Some c else None
  folding u n = None

  -- the form of a tree, or that it has no spelling
  abbrev pub GivesForm : Terms → Tree → Result code_form.Form ShowRefused → Type 0
  GivesForm t u (Ok f) = IsForm S t (form S u) f.shape f.parts.items × (has_no_spelling S u ≡ false)
  GivesForm t u (Err Unprintable) = has_no_spelling S u ≡ true
  GivesForm t u (Err (Memory e)) = Unit {0}

-- ---- atoms

-- the bytes are those of the atom that the tree is written as, where it is written as one
abbrev pub IsSpelled : Signature → Tree → List ℕ → Type 0
IsSpelled S u bytes = (k : AtomKind) (text : List ℕ) → form S u ≡ Leaf k text → bytes ≡ printed_atom k text
