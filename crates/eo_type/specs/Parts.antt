-- Parts of the definition of typing that functions have to themselves.
use Rattle.std.specs.Prelude.{◌≡◌, ℕ, ◌<◌, All, List, [], ◌∷◌, length, Option, if◌then◌else◌}
use Rattle.std.specs.List.{list_all}
use Rattle.eo_term.specs.declared.OpName.{OpName}
use Rattle.eo_term.specs.Growth.{tree_in}
use Rattle.eo_term.specs.Terms.{Terms, arity}
use Rattle.eo_term.specs.Tree.{Tree, type_tree, is_value, tree_eq}
use Rattle.eo_pattern.specs.Matching.{Assignment, empty, matching}
use Rattle.eo_sig.specs.Signature.{Signature}
use Rattle.eo_ops.specs.Operators.{Literal, literal_tree, answer_map, kind_value, op_value, tree_op_value}
use Rattle.eo_type.specs.Types.{TypeOutcome, Untyped, on_typed, typed_if, typed_answer, type_of}

-- as many arguments as the operator takes, which are all there
pub record AreArguments (t : Terms) (op : OpName) (is : List ℕ) : Type 0 where
  pub count : length is ≡ arity op
  pub args : All (λ i. i < length t.trees) is

-- an operator on values
abbrev pub on_values : OpName → List Tree → TypeOutcome Tree
on_values o ts = if list_all is_value ts then typed_answer (tree_op_value o ts) else Untyped

-- one on literals
abbrev pub on_literals : OpName → List Literal → TypeOutcome Tree
on_literals o ls = typed_answer (answer_map literal_tree (op_value o ls))

-- one on values of which some is no literal
abbrev pub on_others : OpName → List Tree → TypeOutcome Tree
on_others o ts = typed_answer (kind_value o ts)

-- the type of a variable, by its type
abbrev pub variable_type : Signature → Tree → TypeOutcome Tree
variable_type S t = on_typed (type_of S t) (λ k. typed_if (tree_eq k type_tree) t)

-- what makes one term of a table match another, the pattern
abbrev pub matched_in : Terms → ℕ → ℕ → Option Assignment
matched_in t pattern i = matching empty (tree_in t pattern ∷ []) (tree_in t i ∷ [])
