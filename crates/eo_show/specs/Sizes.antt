-- What the passes over members find: at how many places they are parts, how large they are, and their names.
use Rattle.std.specs.Prelude.{◌≡◌, ℕ, suc, ◌<◌, slice_index_or, Option, Some, None, ◌+◌, Bool, ◌||◌, if◌then◌else◌, List, [], max, length, codes}
use Rattle.eo_term.specs.Tree.{Tree, height, tree_eq}
use Rattle.eo_sexp.specs.AtomKind as kind
use Rattle.eo_sexp.specs.Sexp.{Sexp}
use Rattle.eo_sexp.specs.Printing.{printed, printed_atom}
use Rattle.eo_sig.specs.Signature.{Signature}
use Rattle.eo_show.specs.declared.Shape.{Shape}
use Rattle.eo_show.specs.declared.Shape.TheVariants as shape
use Rattle.eo_show.specs.declared.sizes.Size.{Size}
use Rattle.eo_show.specs.Forms.{name_of}
use Rattle.eo_show.specs.Lines.{line_name}
use Rattle.eo_show.specs.Members.{places, nesting, stand_in, measured, is_defined}
use Rattle.eo_show.specs.Plan.{up_to}

-- ---- sizes up to the bounds

-- the height of an s-expression and the number of its bytes
abbrev pub size_of : Sexp → Size
size_of s = record { height = up_to 64 (suc (nesting s)); bytes = up_to 4096 (length (printed s)) }

-- a list of a symbol of so many bytes alone
abbrev pub list_size : ℕ → Size
list_size head = record { height = 2; bytes = up_to 4096 (2 + head) }

-- a list with one part more
abbrev pub with_part : Size → Size → Size
with_part list part = record { height = up_to 64 (max list.height (suc part.height)); bytes = up_to 4096 (list.bytes + suc part.bytes) }

-- ---- what a list begins with

-- the bytes of the symbol that a list of this shape begins with
abbrev pub head : Signature → Shape → List ℕ
head S shape.Leaf = []
head S (shape.Folded c) = printed_atom kind.Symbol (name_of S c)
head S shape.Plainly = codes "_"
head S shape.Function = codes "->"
head S shape.Variable = codes "eo::var"

-- ---- members

module _ (S : Signature) (all : List Tree) where
  abbrev pub some_places : Tree → ℕ
  some_places u = up_to 2 (places S all u)

  -- as it is measured
  abbrev pub own : Tree → Sexp
  own u = measured S all (height u) u

  -- as a part of another one
  abbrev pub as_part : Tree → Sexp
  as_part u = if is_defined S all u then stand_in else own u

  abbrev pub part_size : Tree → Size
  part_size u = size_of (as_part u)

  -- top is the value itself
  abbrev pub gets_line : Tree → Tree → Bool
  gets_line top u = tree_eq u top || is_defined S all u

-- the names of trees, by their numbers
pub record AreNamed (us : List Tree) (numbers : List ℕ) (named : Tree → Option (List ℕ)) : Type 0 where
  pub none : (i : ℕ) (u : Tree) → i < length us → u ≡ slice_index_or us i u → slice_index_or numbers i 0 ≡ 0 → named u ≡ None
  pub some : (i k : ℕ) (u : Tree) → i < length us → u ≡ slice_index_or us i u → slice_index_or numbers i 0 ≡ suc k → named u ≡ Some (line_name (suc k))
