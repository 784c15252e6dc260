-- Symbols, and lists of two, in a list of s-expressions.
use Rattle.std.specs.Prelude.{◌≡◌, ℕ, List, [], Option, Some, option_and_then, unwrap_or}
use Rattle.eo_sexp.specs.Sexp.{Sexp, only_two}
use Rattle.eo_shape.specs.Shapes.{every, list_of}
use Rattle.eo_shape.specs.Words.{symbol_of}

abbrev pub symbols_in : List Sexp → List (List ℕ)
symbols_in items = unwrap_or (every symbol_of items) []

-- each is a symbol
abbrev pub AreSymbols : List Sexp → Type 0
AreSymbols items = every symbol_of items ≡ Some (symbols_in items)

abbrev pub shaped_pair : Sexp → Option (Sexp × Sexp)
shaped_pair s = option_and_then only_two (list_of s)

abbrev pub pairs_in : List Sexp → List (Sexp × Sexp)
pairs_in items = unwrap_or (every shaped_pair items) []

-- each is a list of two
abbrev pub ArePairs : List Sexp → Type 0
ArePairs items = every shaped_pair items ≡ Some (pairs_in items)
