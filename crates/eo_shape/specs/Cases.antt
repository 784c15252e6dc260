-- Cases of a program that have their shape, in a list of s-expressions.
use Rattle.std.specs.Prelude.{◌≡◌, ℕ, List, [], Option, Some, option_and_then, unwrap_or}
use Rattle.eo_sexp.specs.Sexp.{Sexp}
use Rattle.eo_shape.specs.Shapes.{CaseShape, every, list_of, case_of}

module _ (name : List ℕ) where
  abbrev pub shaped_case : Sexp → Option CaseShape
  shaped_case s = option_and_then (case_of name) (list_of s)

  abbrev pub cases_in : List Sexp → List CaseShape
  cases_in items = unwrap_or (every shaped_case items) []

  -- each has the shape of a case
  abbrev pub AreCases : List Sexp → Type 0
  AreCases items = every shaped_case items ≡ Some (cases_in items)
