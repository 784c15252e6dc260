-- The meaning of a term: a tree, or the first fault. Parts are read from left to right.
use Rattle.std.specs.Prelude.{ℕ, ◌%◌, ◌^◌, Bool, true, false, not, ◌&&◌, ◌||◌, ◌==◌, nat_le, if◌then◌else◌, List, [], ◌∷◌, ◌++◌, map, length, drop, Option, Some, None, is_some, option_map, unwrap_or, slice_get, bytes_eq, codes, Ok, Err}
use Rattle.std.specs.List.{list_any, starts_with}
use Rattle.eo_base.specs.declared.FaultName.{FaultName}
use Rattle.eo_base.specs.declared.FaultName.TheVariants.{BadLiteral, BadCommand, Redeclared, UnknownSymbol, BadArity}
use Rattle.eo_base.specs.Checks.{Checked, value_or}
use Rattle.eo_lit.specs.Literals.{Literal, Number, BitString, literal_value, string_value, numeral}
use Rattle.eo_pattern.specs.Matching.{put}
use Rattle.eo_sexp.specs.AtomKind.{AtomKind}
use Rattle.eo_sexp.specs.AtomKind as kind
use Rattle.eo_sexp.specs.Sexp.{Sexp, Atom, Listed, Sexps, NoSexp, Next, children_of}
use Rattle.eo_shape.specs.Words.{symbol_of, keyword_of, numeral_of, is_some_word}
use Rattle.eo_sig.specs.Signature.{Attribute, Binder, is_free}
use Rattle.eo_term.specs.Tree.{Tree, Con, Num, Bits, Str, Op, to_trees}
use Rattle.eo_names.specs.Binders.{pair_local, variable, variable_list}
use Rattle.eo_names.specs.Contexts.{FileKind, InAssert, Context, Local, is_reference, is_assert, is_list}
use Rattle.eo_names.specs.Meanings.{Resolved, ATree, AMacro, AnOperator, Nothing, meant, meant_before, Word, Underscore, Arrow, Let, Annotation, Name, word_of}
use Rattle.eo_names.specs.Readers.{NamedTerm, Reader, ◌>>=◌, give, fail, with_named_terms, read, unless, built}
use Rattle.eo_names.specs.Folding.{applied, attribute_at, least, folded, arrow, plainly}

-- ---- atoms

abbrev pub literal_tree : Literal → Tree
literal_tree (Number z) = Num z
literal_tree (BitString w v) = Bits w v

abbrev pub tree_alone : Resolved → Checked Tree
tree_alone (ATree t) = Ok t
tree_alone (AMacro m) = Err BadArity
tree_alone (AnOperator code arity) = Err BadArity
tree_alone Nothing = Err UnknownSymbol

abbrev pub word_alone : Word → Resolved → Checked Tree
word_alone Name m = tree_alone m
word_alone w m = Err BadArity

unfoldable pub atom : Context → List Local → AtomKind → List ℕ → Checked Tree
atom c locals kind.Symbol text = word_alone (word_of c.file_kind text) (meant c locals text)
atom c locals kind.Literal text = value_or BadLiteral (option_map literal_tree (literal_value text))
atom c locals kind.String text = value_or BadLiteral (option_map Str (string_value text))
atom c locals k text = Err UnknownSymbol

-- ---- shapes

abbrev pub count : Sexps → ℕ
count args = length (children_of args)

-- a symbol and one thing more
abbrev pub is_pair : Sexp → Bool
is_pair (Listed (Next (Atom kind.Symbol name at) (Next t NoSexp)) span) = true
is_pair s = false

abbrev pub are_pairs : Sexps → Bool
are_pairs NoSexp = true
are_pairs (Next s rest) = is_pair s && are_pairs rest

-- a list of such pairs, not empty
abbrev pub is_pair_list : Sexp → Bool
is_pair_list (Listed (Next s rest) span) = is_pair s && are_pairs rest
is_pair_list s = false

-- pairs, and a body
abbrev pub is_let : Sexps → Bool
is_let (Next pairs (Next body NoSexp)) = is_pair_list pairs
is_let args = false

abbrev pub begins_with_pairs : Sexps → Bool
begins_with_pairs NoSexp = false
begins_with_pairs (Next s rest) = is_pair_list s

-- keywords, each with at most one value; `may_be` says whether a value may come first
abbrev pub are_attributes : (may_be : Bool) → Sexps → Bool
are_attributes may_be NoSexp = true
are_attributes may_be (Next s rest) =
    if is_some (keyword_of s) then are_attributes true rest else may_be && are_attributes false rest

-- a name before others, where each is there
abbrev pub name_before : Option (List ℕ) → Option (List (List ℕ)) → Option (List (List ℕ))
name_before (Some name) (Some names) = Some (name ∷ names)
name_before name names = None

-- the names that `:named` gives; none where one is missing or is no symbol
abbrev pub names_given : (named : Bool) → Sexps → Option (List (List ℕ))
names_given true NoSexp = None
names_given false NoSexp = Some []
names_given true (Next s rest) = name_before (symbol_of s) (names_given false rest)
names_given false (Next s rest) = names_given (is_some_word (codes ":named") (keyword_of s)) rest

-- a term and one or more attributes
abbrev pub is_annotated : FileKind → Sexps → Bool
is_annotated file_kind (Next t (Next s rest)) =
    are_attributes false (Next s rest) && (not (is_assert file_kind) || is_some (names_given false (Next s rest)))
is_annotated file_kind args = false

-- ---- applications

-- bvN, as bits of a width
abbrev pub indexed_bits : ℕ → List ℕ → Option Tree
indexed_bits width name =
    if nat_le 1 width && nat_le width 128 && starts_with ◌==◌ name (codes "bv")
    then option_map (λ v. Bits width (v % 2 ^ width)) (numeral (drop 2 name))
    else None

-- the same, where both are there
abbrev pub bits_of : Option (List ℕ) → Option ℕ → Option Tree
bits_of (Some name) (Some width) = indexed_bits width name
bits_of name width = None

-- bvN and w: the bit string of width w with the value N (SMT-LIB 2.6, theory of fixed size bit vectors)
abbrev pub bit_vector : Sexps → Option Tree
bit_vector (Next n (Next w NoSexp)) = bits_of (symbol_of n) (numeral_of w)
bit_vector args = None

-- What a head makes of its arguments.
pub data Application : Type 0 where
  -- a fault, before they are read
  Wrong : (fault : FaultName) → Application
  -- a constant that binds variables, on their list, which another one makes, and on the other arguments
  Binds : (binder collector : ℕ) → Application
  -- this of their meanings
  Uses : (made : List Tree → Checked Tree) → Application

-- What a list is.
pub data ListForm : Type 0 where
  ALet : ListForm
  -- a term and its attributes
  AnAnnotation : ListForm
  ABitString : (tree : Tree) → ListForm
  AnApplication : (application : Application) → ListForm
  -- a head that is a term of its own, which is read before the arguments
  ATermFirst : ListForm

-- what is made of as many arguments as are wanted; of others, `BadArity`
abbrev pub where_many : (are_many : Bool) → (List Tree → Checked Tree) → Application
where_many true made = Uses made
where_many false made = Wrong BadArity

module _ (args : Sexps) where
  abbrev pub at_least : ℕ → (List Tree → Checked Tree) → Application
  at_least n made = where_many (nat_le n (count args)) made

  abbrev pub exactly : ℕ → (List Tree → Checked Tree) → Application
  exactly n made = where_many (count args == n) made

  abbrev pub plain_use : Tree → Application
  plain_use f = at_least 1 (λ ts. Ok (applied f ts))

module _ (c : Context) (locals : List Local) (args : Sexps) where
  abbrev pub folded_use : ℕ → Application
  folded_use f = at_least args (least (attribute_at c.signature f)) (folded c.signature (is_list locals) f)

  abbrev pub constant_use : ℕ → Attribute → Application
  constant_use f (Binder collector) = if begins_with_pairs args then Binds f collector else folded_use f
  constant_use f a = folded_use f

  -- a constant goes by its attribute, any other head is applied plainly
  abbrev pub tree_use : Tree → Application
  tree_use (Con f) = constant_use f (attribute_at c.signature f)
  tree_use f = plain_use args f

  abbrev pub meant_use : Resolved → Application
  meant_use (ATree t) = tree_use t
  meant_use (AMacro m) = exactly args (length m.parameters) (λ ts. Ok (put (slice_get ts) m.tree))
  meant_use (AnOperator code arity) = exactly args arity (λ ts. Ok (Op code (to_trees ts)))
  meant_use Nothing = Wrong UnknownSymbol

  abbrev pub underscore_form : Option Tree → ListForm
  underscore_form (Some t) = ABitString t
  underscore_form None = AnApplication (at_least args 2 (λ ts. Ok (plainly ts)))

  abbrev pub word_form : Word → Resolved → ListForm
  word_form Underscore m = underscore_form (if is_reference c.file_kind then bit_vector args else None)
  word_form Arrow m = AnApplication (at_least args 2 (λ ts. Ok (arrow ts)))
  word_form Let m = if is_let args then ALet else AnApplication (Wrong BadCommand)
  word_form Annotation m = if is_annotated c.file_kind args then AnAnnotation else AnApplication (Wrong BadCommand)
  word_form Name m = AnApplication (meant_use m)

  abbrev pub head_form : (word : Option (List ℕ)) → ListForm
  head_form None = ATermFirst
  head_form (Some name) = word_form (word_of c.file_kind name) (meant_before c (count args) locals name)

  -- what a list is whose head is this symbol, or none
  abbrev pub counted_form : (word : Option (List ℕ)) → ListForm
  counted_form word = if nat_le 1 (count args) then head_form word else AnApplication (Wrong BadArity)

abbrev pub list_form : Context → List Local → Sexps → ListForm
list_form c locals NoSexp = AnApplication (Wrong BadArity)
list_form c locals (Next h args) = counted_form c locals args (symbol_of h)

-- an application, by the readings of all its arguments, and of those after the variables that it binds
abbrev pub used : Application → Reader (List Tree) → (ℕ → Reader (List Tree)) → Reader Tree
used (Wrong fault) arguments in_binder = fail fault
used (Binds f collector) arguments in_binder = do
  ts ← in_binder collector
  built (applied (Con f) ts)
used (Uses made) arguments in_binder = do
  ts ← arguments
  t ← read (made ts)
  built t

-- ---- names given by `:named`

abbrev pub is_free_named_term : Context → List NamedTerm → List ℕ → Bool
is_free_named_term c named_terms name = is_free c.signature c.macros name && not (list_any (λ l. bytes_eq l.name name) named_terms)

abbrev pub label : Context → Tree → List (List ℕ) → Reader Tree
label c t [] named_terms = Ok (t, named_terms)
label c t (name ∷ names) named_terms =
    if is_free_named_term c named_terms name then label c t names (named_terms ++ record { name = name; tree = t } ∷ []) else Err Redeclared

-- they count in an `assert` alone
abbrev pub named_terms_of : FileKind → Sexps → List (List ℕ)
named_terms_of InAssert attributes = unwrap_or (names_given false attributes) []
named_terms_of s attributes = []

-- ---- terms

unfoldable mutual
  pub means : Context → List Local → Sexp → Reader Tree
  means c locals (Atom k text span) named_terms = with_named_terms named_terms (atom c locals k text)
  means c locals (Listed ss span) named_terms = means_list c locals (list_form c locals ss) ss named_terms

  pub means_list : Context → List Local → ListForm → Sexps → Reader Tree
  means_list c locals form NoSexp named_terms = Err BadArity
  means_list c locals ALet (Next h args) named_terms = in_let c locals args named_terms
  means_list c locals AnAnnotation (Next h args) named_terms = annotated c locals args named_terms
  means_list c locals (ABitString t) (Next h args) named_terms = Ok (t, named_terms)
  means_list c locals (AnApplication u) (Next h args) named_terms = used u (means_all c locals args) (in_binder c locals args) named_terms
  means_list c locals ATermFirst (Next h args) named_terms = (do
    f ← means c locals h
    used (tree_use c locals args f) (means_all c locals args) (in_binder c locals args)
    ) named_terms

  pub means_all : Context → List Local → Sexps → Reader (List Tree)
  means_all c locals NoSexp named_terms = Ok ([], named_terms)
  means_all c locals (Next s rest) named_terms = (do
    t ← means c locals s
    ts ← means_all c locals rest
    give (t ∷ ts)
    ) named_terms

  -- the body with the names of the pairs; they are given their trees at once
  pub in_let : Context → List Local → Sexps → Reader Tree
  in_let c locals (Next pairs (Next body NoSexp)) named_terms = (do
    ps ← pair_list c locals pairs
    means c (map pair_local ps ++ locals) body
    ) named_terms
  in_let c locals args named_terms = Err BadCommand

  -- the list of the variables, and the other arguments with their names
  pub in_binder : Context → List Local → Sexps → ℕ → Reader (List Tree)
  in_binder c locals (Next pairs rest) collector named_terms = (do
    ps ← pair_list c locals pairs
    first ← variable_list c.signature (is_list locals) collector (map variable ps)
    others ← means_all c (map pair_local (map variable ps) ++ locals) rest
    give (first ∷ others)
    ) named_terms
  in_binder c locals NoSexp collector named_terms = Err BadCommand

  -- the names of a `let` or a binder with the meanings beside them, no name twice
  pub pair_list : Context → List Local → Sexp → Reader (List (List ℕ × Tree))
  pair_list c locals (Listed pairs span) named_terms = pairs_after c locals pairs [] named_terms
  pair_list c locals (Atom k text span) named_terms = Err BadCommand

  pub pairs_after : Context → List Local → Sexps → List (List ℕ × Tree) → Reader (List (List ℕ × Tree))
  pairs_after c locals NoSexp before named_terms = Ok (before, named_terms)
  pairs_after c locals (Next (Listed (Next (Atom k name at) (Next t NoSexp)) span) rest) before named_terms =
      unless (not (list_any (λ p. bytes_eq p.0 name) before)) Redeclared
      (do
        tree ← means c locals t
        pairs_after c locals rest (before ++ (name, tree) ∷ [])
      ) named_terms
  pairs_after c locals pairs before named_terms = Err BadCommand

  pub annotated : Context → List Local → Sexps → Reader Tree
  annotated c locals (Next t attributes) named_terms = (do
    tree ← means c locals t
    label c tree (named_terms_of c.file_kind attributes)
    ) named_terms
  annotated c locals NoSexp named_terms = Err BadCommand

abbrev pub without_named_terms : {A : Type 0} → Checked (A × List NamedTerm) → Checked A
without_named_terms (Ok r) = Ok r.0
without_named_terms (Err fault) = Err fault

-- The meaning of a term outside an `assert`.
unfoldable pub meaning : Context → List Local → Sexp → Checked Tree
meaning c locals s = without_named_terms (means c locals s [])
