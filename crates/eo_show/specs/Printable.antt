-- What is asked of a signature and of a value that is shown.
use Rattle.std.specs.Prelude.{◌≡◌, ℕ, ◌+◌, ◌^◌, ◌<◌, ◌≤◌, true, false, List, length}
use Rattle.std.specs.List.{list_all}
use Rattle.eo_base.specs.Limits.{limits, height_limit}
use Rattle.eo_sexp.specs.AtomKind as kind
use Rattle.eo_sexp.specs.Lexicon.{is_quotable}
use Rattle.eo_sexp.specs.Printing.{printed_atom}
use Rattle.eo_sig.specs.Signature.{Signature, Macro, constants}
use Rattle.eo_term.specs.Ranges.{IsInRange}
use Rattle.eo_term.specs.Tree.{Tree, height, is_value}
use Rattle.eo_show.specs.Forms.{name_of}
use Rattle.eo_show.specs.Members.{defined, is_unprintable}

-- a name that can be printed as a symbol
abbrev pub IsPrintedName : List ℕ → Type 0
IsPrintedName name = (list_all is_quotable name ≡ true) × (length (printed_atom kind.Symbol name) ≤ limits.token)

-- the name of each constant is one
abbrev pub ArePrintedNames : Signature → Type 0
ArePrintedNames S = (k : ℕ) → k < length (constants S) → IsPrintedName (name_of S k)

-- A value within the limits that can be printed, and lines few enough that their numbers and those of the names that are taken are below 2^64.
pub record CanShow (S : Signature) (macros : List Macro) (t : Tree) : Type 0 where
  pub value : is_value t ≡ true
  pub low : height t ≤ height_limit
  pub in_range : IsInRange t
  pub printable : is_unprintable S t ≡ false
  pub room : length (defined S t) + length S + length macros < 2 ^ 64
