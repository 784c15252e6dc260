-- Parameters that have their shape, in a list of s-expressions.
use Rattle.std.specs.Prelude.{◌≡◌, List, [], ◌∷◌, Option, Some, option_and_then, unwrap_or}
use Rattle.eo_sexp.specs.Sexp.{Sexp}
use Rattle.eo_shape.specs.Shapes.{ParameterShape, every, list_of, parameter_of, with_marks}

abbrev pub shaped_parameter : Sexp → Option ParameterShape
shaped_parameter s = option_and_then parameter_of (list_of s)

abbrev pub parameters_in : List Sexp → List ParameterShape
parameters_in items = unwrap_or (every shaped_parameter items) []

-- a parameter with one mark more, where there is one: further marks are put on it
abbrev pub AddsMark : ParameterShape → Sexp → Option ParameterShape → Type 0
AddsMark p mark marked = (rest : List Sexp) → with_marks p (mark ∷ rest) ≡ option_and_then (λ x. with_marks x rest) marked

-- each has the shape of a parameter
abbrev pub AreParameters : List Sexp → Type 0
AreParameters items = every shaped_parameter items ≡ Some (parameters_in items)
