-- The trees that a state holds.
use Rattle.std.specs.Prelude.{ℕ, suc, not, List, [], ◌∷◌, ◌++◌, flat_map, filter, length}
use Rattle.eo_term.specs.Tree.{Tree, Con, subtrees, tree_eq}
use Rattle.eo_sig.specs.Signature.{Signature, SignatureEntry, IsConstant, IsProgram, IsRule, IsLiteralType, Macro}
use Rattle.eo_proof.specs.Scopes.{Scopes, formulas}
use Rattle.eo_reclaim.specs.Trees.{constant_trees, macro_trees, program_trees, rule_trees}
use Rattle.eo_session.specs.State.{State}

-- the trees of what is declared, where the next constant has number k: a constant itself is one
abbrev pub entry_trees : ℕ → Signature → List Tree
entry_trees k [] = []
entry_trees k (IsConstant c n ∷ es) = Con k ∷ constant_trees c ++ entry_trees (suc k) es
entry_trees k (IsProgram p ∷ es) = program_trees p ++ entry_trees k es
entry_trees k (IsRule r ∷ es) = rule_trees r ++ entry_trees k es
entry_trees k (IsLiteralType class t ∷ es) = t ∷ entry_trees k es

-- the trees of an entry, where the next constant has number k
abbrev pub own_trees : ℕ → SignatureEntry → List Tree
own_trees k (IsConstant c n) = Con k ∷ constant_trees c
own_trees k (IsProgram p) = program_trees p
own_trees k (IsRule r) = rule_trees r
own_trees k (IsLiteralType class t) = t ∷ []

-- the trees of declarations, macros, assertions and facts
abbrev pub roots_of : Signature → List Macro → List Tree → Scopes → List Tree
roots_of S macros assertions facts = entry_trees 0 S ++ flat_map macro_trees macros ++ assertions ++ formulas facts

unfoldable pub roots : State → List Tree
roots st = roots_of st.signature st.macros st.assertions st.scopes

-- each tree once
abbrev pub distinct : List Tree → List Tree
distinct [] = []
distinct (t ∷ ts) = t ∷ filter (λ u. not (tree_eq t u)) (distinct ts)

-- the subtrees of these trees, each once
abbrev pub live_in : List Tree → List Tree
live_in ts = distinct (flat_map subtrees ts)

-- how many different subtrees the roots have
unfoldable pub live_count : State → ℕ
live_count st = length (live_in (roots st))
