-- The bytes of atoms of each kind.
use Rattle.std.specs.Prelude.{ℕ, Bool, false, List, Option, Some, None, bytes_eq}
use Rattle.eo_lit.specs.Literals.{numeral}
use Rattle.eo_sexp.specs.AtomKind as kind
use Rattle.eo_sexp.specs.Sexp.{Sexp, Atom}

abbrev pub symbol_of : Sexp → Option (List ℕ)
symbol_of (Atom kind.Symbol text span) = Some text
symbol_of s = None

abbrev pub keyword_of : Sexp → Option (List ℕ)
keyword_of (Atom kind.Keyword text span) = Some text
keyword_of s = None

abbrev pub numeral_of : Sexp → Option ℕ
numeral_of (Atom kind.Literal text span) = numeral text
numeral_of s = None

-- between the quotes, as it is written
abbrev pub string_of : Sexp → Option (List ℕ)
string_of (Atom kind.String text span) = Some text
string_of s = None

-- whether an atom is this word
abbrev pub is_some_word : List ℕ → Option (List ℕ) → Bool
is_some_word word None = false
is_some_word word (Some text) = bytes_eq text word
