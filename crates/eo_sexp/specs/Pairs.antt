-- The first parts of a list.
use Rattle.std.specs.Prelude.{ℕ, List, [], ◌∷◌, Option, Some, None}
use Rattle.eo_sexp.specs.Sexp.{Sexp, Span}
pub use Rattle.eo_sexp.specs.Sexp.{list_of, only_two}

abbrev pub pair_of_span : Span → ℕ × ℕ
pair_of_span s = (s.from, s.to)

abbrev pub first_one : List Sexp → Option (Sexp × List Sexp)
first_one (a ∷ rest) = Some (a, rest)
first_one [] = None

abbrev pub first_two : List Sexp → Option (Sexp × Sexp × List Sexp)
first_two (a ∷ b ∷ rest) = Some (a, b, rest)
first_two ss = None

abbrev pub first_three : List Sexp → Option (Sexp × Sexp × Sexp × List Sexp)
first_three (a ∷ b ∷ c ∷ rest) = Some (a, b, c, rest)
first_three ss = None

abbrev pub only_one : List Sexp → Option Sexp
only_one (a ∷ []) = Some a
only_one ss = None

abbrev pub only_three : List Sexp → Option (Sexp × Sexp × Sexp)
only_three (a ∷ b ∷ c ∷ []) = Some (a, b, c)
only_three ss = None
