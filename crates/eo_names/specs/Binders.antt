-- The names that a `let` or a binder binds, with trees.
use Rattle.std.specs.Prelude.{ℕ, Bool, false, List, map}
use Rattle.eo_sig.specs.Signature.{Signature}
use Rattle.eo_term.specs.Tree.{Tree, Var}
use Rattle.eo_names.specs.Contexts.{Local}
use Rattle.eo_names.specs.Folding.{folded}
use Rattle.eo_names.specs.Readers.{Reader, ◌>>=◌, read, built}

abbrev pub pair_local : List ℕ × Tree → Local
pair_local p = record { name = p.0; tree = p.1; list = false }

-- a name and its type, as a variable
abbrev pub variable : List ℕ × Tree → List ℕ × Tree
variable p = (p.0, Var p.0 p.1)

abbrev pub variables_of : List (List ℕ × Tree) → List Tree
variables_of ps = map (λ (v : List ℕ × Tree). v.1) (map variable ps)

-- the list of these variables, which another constant makes
abbrev pub variable_list : Signature → (Tree → Bool) → ℕ → List (List ℕ × Tree) → Reader Tree
variable_list S is_list collector vs = read (folded S is_list collector (map (λ v. v.1) vs)) >>= built
