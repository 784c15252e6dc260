-- Parts of declarations that functions have to themselves.
use Rattle.std.specs.Prelude.{◌≡◌, ℕ, ◌<◌, ◌&&◌, List, [], ◌∷◌, map, Bool, Option, Some, None}
use Rattle.eo_term.specs.Growth.{tree_in}
use Rattle.eo_term.specs.Terms.{Terms}
use Rattle.eo_term.specs.ParamSet.{has}
use Rattle.eo_term.specs.Tree.{Tree, occurs_in, uses_only}
use Rattle.eo_sig.specs.declared.records.Param.{Param}
use Rattle.eo_sig.specs.Reading.{Kept, signature, macros, read_parameter, read_pair}
use Rattle.eo_sig.specs.Signature.{Parameter, Named, argument_types, known, lookup}

-- the parameters of a declaration
abbrev pub parameters_in : Terms → List Param → List Parameter
parameters_in t ps = map (read_parameter t.trees) ps

-- pairs of terms
abbrev pub pairs_in : Terms → List (ℕ × ℕ) → List (Tree × Tree)
pairs_in t ps = map (read_pair t.trees) ps

-- both use only parameters that pass the test
abbrev pub uses_only_both : (ℕ → Bool) → Tree × Tree → Bool
uses_only_both known p = uses_only known p.0 && uses_only known p.1

-- Where the set old holds what occurs in patterns, the set new holds what gets a value by these patterns.
abbrev pub Solves : Terms → List Param → ℕ → ℕ → Type 0
Solves t ps old new =
    (patterns : List Tree) → ((j : ℕ) → has old j ≡ occurs_in j patterns) → (j : ℕ) → has new j ≡ known patterns 0 (parameters_in t ps) j

-- what a name means
abbrev pub lookup_in : List Tree → Kept → List ℕ → Option Named
lookup_in ts k name = lookup (signature ts k) (macros ts k) name

-- an argument's type and what is left, both older than the type, or no argument
abbrev pub Splits : Terms → ℕ → Option (ℕ × ℕ) → Type 0
Splits t i (Some p) = (p.0 < i) × (p.1 < i) × (argument_types (tree_in t i) ≡ tree_in t p.0 ∷ argument_types (tree_in t p.1))
Splits t i None = argument_types (tree_in t i) ≡ []
