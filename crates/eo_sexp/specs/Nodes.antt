-- The s-expressions that a flat list of nodes represents.
use Rattle.std.specs.Prelude.{◌≡◌, ℕ, ◌+◌, ◌-◌, ◌^◌, ◌<◌, ◌≤◌, Bool, true, false, List, [], ◌∷◌, length, take, drop}
use Rattle.std.specs.List.{slice_range}
use Rattle.eo_sexp.specs.Sexp.{Sexp, Atom, Listed, NoSexp}
use Rattle.eo_sexp.specs.Sexp.{sexps_of}
use Rattle.eo_sexp.specs.declared.token.AtomKind.{AtomKind}
use Rattle.eo_sexp.specs.declared.lent.Node.{Node}
use Rattle.eo_sexp.specs.declared.lent.Node.TheVariants as node
use Rattle.eo_sexp.specs.declared.lent.Parts.{Parts}
use Rattle.eo_sexp.specs.AtomKind as kind
use Rattle.eo_sexp.specs.Counts.{count_of}
use Rattle.eo_sexp.specs.Token.{kind_meant}

-- the bytes of a token, without its delimiters
abbrev pub token_text : List ℕ → (delimited : Bool) → (from to : ℕ) → List ℕ
token_text bytes true from to = slice_range bytes (from + 1) (to - 1)
token_text bytes false from to = slice_range bytes from to

-- the atom of these bytes that the token is
abbrev pub token_atom : List ℕ → AtomKind → (delimited : Bool) → (from to : ℕ) → Sexp
token_atom bytes k delimited from to = Atom (kind_meant k) (token_text bytes delimited from to) (record { from = from; to = to })

-- the s-expressions that the nodes are, read from the last node on
abbrev pub trees : List ℕ → List Node → List Sexp
trees bytes [] = []
trees bytes (node.Atom k delimited from to ∷ ns) = Atom (kind_meant k) (token_text bytes delimited from to) (record { from = from; to = to }) ∷ trees bytes ns
trees bytes (node.List children inside from to ∷ ns) =
    Listed (sexps_of (take (count_of children) (trees bytes ns))) (record { from = from; to = to }) ∷ drop (count_of children) (trees bytes ns)

-- the first of them
abbrev pub first_of : List Sexp → Sexp
first_of [] = Listed NoSexp (record { from = 0; to = 0 })
first_of (s ∷ ss) = s

-- The delimiters that an atom of this kind may have at its ends: a string has its quotes, a symbol its bars or none, any other atom none.
abbrev pub Delimits : kind.AtomKind → (delimited : Bool) → Type 0
Delimits kind.Symbol delimited = Unit {0}
Delimits kind.Keyword delimited = delimited ≡ false
Delimits kind.Literal delimited = delimited ≡ false
Delimits kind.String delimited = delimited ≡ true

-- the text of a token lies in the bytes
abbrev pub HasText : List ℕ → (delimited : Bool) → (from to : ℕ) → Type 0
HasText bytes true from to = (from + 2 ≤ to) × (to ≤ length bytes + 1)
HasText bytes false from to = (from ≤ to) × (to ≤ length bytes)

-- the nodes inside of a list are followed by those after it
pub record Holds (bytes : List ℕ) (children inside : ℕ) (ns : List Node) : Type 0 where
  pub inner : inside ≤ length ns
  pub many : children ≤ length (trees bytes ns)
  pub behind : trees bytes (drop inside ns) ≡ drop children (trees bytes ns)

-- a node fits those after it
abbrev pub Fits : List ℕ → Node → List Node → Type 0
Fits bytes (node.Atom k delimited from to) ns = HasText bytes delimited from to × Delimits (kind_meant k) delimited
Fits bytes (node.List children inside from to) ns = Holds bytes (count_of children) inside ns

abbrev pub AreLinked : List ℕ → List Node → Type 0
AreLinked bytes [] = Unit {0}
AreLinked bytes (n ∷ ns) = Fits bytes n ns × AreLinked bytes ns

-- the s-expressions from the part at this place on
abbrev pub trees_at : Parts → ℕ → List Sexp
trees_at p at = trees p.bytes.items (drop at p.nodes.items)

-- the part at this place, a number of 32 bits, begins an s-expression
pub record IsSexp (p : Parts) (at : ℕ) : Type 0 where
  pub few : length p.nodes.items < 2 ^ 32
  pub some : at < length p.nodes.items
  pub linked : AreLinked p.bytes.items (drop at p.nodes.items)

-- at this place begin so many s-expressions
pub record AreSexps (p : Parts) (at count : ℕ) : Type 0 where
  pub few : length p.nodes.items < 2 ^ 32
  pub linked : AreLinked p.bytes.items (drop at p.nodes.items)
  pub many : count ≤ length (trees_at p at)
