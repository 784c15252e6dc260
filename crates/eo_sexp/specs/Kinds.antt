-- What an s-expression is, as a caller is given it.
use Rattle.eo_sexp.specs.declared.Kind.{Kind}
use Rattle.eo_sexp.specs.declared.Kind.TheVariants as kind
use Rattle.eo_sexp.specs.AtomKind.{AtomKind, Symbol, Keyword, Literal, String}
use Rattle.eo_sexp.specs.Sexp.{Sexp, Atom, Listed}

abbrev pub kind_told : AtomKind → Kind
kind_told Symbol = kind.Symbol
kind_told Keyword = kind.Keyword
kind_told Literal = kind.Literal
kind_told String = kind.String

abbrev pub sexp_kind : Sexp → Kind
sexp_kind (Atom k text span) = kind_told k
sexp_kind (Listed children span) = kind.List
