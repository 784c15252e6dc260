-- What a command does, once it has passed its checks.
use Rattle.std.specs.Prelude.{ℕ, Bool, true, false, List, [], ◌∷◌, map}
use Rattle.eo_names.specs.Readers.{NamedTerm}
use Rattle.eo_reclaim.specs.Trees.{macro_trees}
use Rattle.eo_sig.specs.Signature.{SignatureEntry, Macro}
use Rattle.eo_term.specs.Tree.{Tree}
use Rattle.eo_session.specs.Roots.{own_trees}
use Rattle.eo_session.specs.State.{State, with_entry, with_macro, with_assertion, with_scope, without_scope}
use Rattle.eo_session.specs.Step.{Concluded, with_conclusion, with_named_terms}

pub data Effect : Type 0 where
  Declares : (entry : SignatureEntry) → Effect
  Defines : (definition : Macro) → Effect
  Asserts : (formula : Tree) (names : List NamedTerm) → Effect
  -- a scope is opened with an assumption
  Opens : (name : List ℕ) (hypothesis : Tree) → Effect
  -- a fact is added, around the innermost scope if the command closes that one
  Adds : (name : List ℕ) (fact : Concluded) (closes : Bool) → Effect
  Nothing : Effect

-- the innermost scope is closed, or not
abbrev pub closed_if : Bool → State → State
closed_if true st = without_scope st
closed_if false st = st

-- the state that the effect is added to
abbrev pub before : State → Effect → State
before st (Declares entry) = st
before st (Defines m) = st
before st (Asserts t names) = st
before st (Opens name t) = st
before st (Adds name k closes) = closed_if closes st
before st Nothing = st

-- the state with what is added
abbrev pub added : State → Effect → State
added st (Declares entry) = with_entry st entry
added st (Defines m) = with_macro st m
added st (Asserts t names) = with_named_terms (with_assertion st t) names
added st (Opens name t) = with_scope st name t
added st (Adds name k closes) = with_conclusion st name k
added st Nothing = st

-- The state after an effect.
abbrev pub after : State → Effect → State
after st e = added (before st e) e

-- the trees that are added, where the next constant has number k
abbrev pub trees_of : ℕ → Effect → List Tree
trees_of k (Declares entry) = own_trees k entry
trees_of k (Defines m) = macro_trees m
trees_of k (Asserts t names) = t ∷ map (λ l. l.tree) names
trees_of k (Opens name t) = t ∷ []
trees_of k (Adds name fact closes) = fact.formula ∷ []
trees_of k Nothing = []
