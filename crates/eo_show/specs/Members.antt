-- The members of a value: itself, the parts of its form, their parts, and so on. Which of them get a line of their own.
use Rattle.std.specs.Prelude.{ℕ, zero, suc, ◌+◌, Bool, true, false, not, ◌&&◌, ◌||◌, nat_le, nat_lt, if◌then◌else◌, List, [], ◌∷◌, ◌++◌, length, filter, fold, sum_by, max, replicate}
use Rattle.std.specs.List.{list_any}
use Rattle.eo_lists.specs.Lists.{times}
use Rattle.eo_lit.specs.Spelling.{string_spelling}
use Rattle.eo_sexp.specs.Sexp.{Sexp, Atom, Listed, Sexps, NoSexp, Next}
use Rattle.eo_sexp.specs.Printing.{printed}
use Rattle.eo_sig.specs.Signature.{Signature}
use Rattle.eo_term.specs.Tree.{Tree, Con, Bits, Str, height, tree_eq}
use Rattle.eo_show.specs.Forms.{form, parts, with_parts, symbol, alone, is_this, name_of}

-- how deep the lists of an s-expression lie in one another
abbrev mutual
  pub nesting : Sexp → ℕ
  nesting (Atom k text span) = 0
  nesting (Listed ss span) = suc (nesting_all ss)

  pub nesting_all : Sexps → ℕ
  nesting_all NoSexp = 0
  nesting_all (Next s rest) = max (nesting s) (nesting_all rest)

abbrev pub most_height : ℕ
most_height = 64

abbrev pub most_length : ℕ
most_length = 4096

-- written in place of a part that has a line of its own: no name of a line is longer
abbrev pub stand_in : Sexp
stand_in = symbol (replicate 24 64)

module _ (S : Signature) where
  abbrev pub parts_of : Tree → List Tree
  parts_of t = parts S (form S t)

  -- The members that were found, and then those of t that were not, each after its parts. The number bounds how deep they lie.
  abbrev pub with_members : ℕ → List Tree → Tree → List Tree
  with_members zero found t = found
  with_members (suc deeper) found t = if list_any (tree_eq t) found then found else fold (with_members deeper) found (parts_of t) ++ t ∷ []

  -- each once, in the order in which their last parts are reached
  unfoldable pub members : Tree → List Tree
  members t = with_members (height t) [] t

  -- ---- which members cannot be written

  abbrev pub has_no_spelling : Tree → Bool
  has_no_spelling (Con k) = not (is_this S k (alone S (name_of S k)))
  has_no_spelling (Bits zero v) = true
  has_no_spelling (Str s) = nat_lt 1_048_576 (2 + length (string_spelling s))
  has_no_spelling t = false

  unfoldable pub is_unprintable : Tree → Bool
  is_unprintable t = list_any has_no_spelling (members t)

  -- ---- which members get a line

  module _ (all : List Tree) where
    -- how often a tree is a part, over all members
    abbrev pub places : Tree → ℕ
    places p = sum_by (λ m. times tree_eq p (parts_of m)) all

    abbrev pub has_parts : Tree → Bool
    has_parts t = nat_le 1 (length (parts_of t))

    -- a member that is written so, its own long parts aside
    abbrev pub wants_line : Tree → Sexp → Bool
    wants_line p s = (has_parts p && nat_le 2 (places p)) || nat_le most_height (suc (nesting s)) || nat_le most_length (length (printed s))

    -- a tree as it is measured: a part with a line of its own is a name
    abbrev pub measured : ℕ → Tree → Sexp
    measured zero t = stand_in
    measured (suc deeper) t = with_parts S (λ p. let s = measured deeper p in if wants_line p s then stand_in else s) (form S t)

    abbrev pub is_defined : Tree → Bool
    is_defined p = wants_line p (measured (height p) p)

  -- the value itself always gets one
  unfoldable pub defined : Tree → List Tree
  defined t = filter (λ m. tree_eq m t || is_defined (members t) m) (members t)
