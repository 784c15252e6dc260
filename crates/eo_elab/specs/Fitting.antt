-- What terms need of a context, so that they use only the parameters that are in scope.
use Rattle.std.specs.Prelude.{◌≡◌, ℕ, true, Bool, ◌&&◌, nat_lt, List, [], ◌∷◌, ◌++◌, length, Some}
use Rattle.std.specs.List.{list_all}
use Rattle.eo_names.specs.Contexts.{Context}
use Rattle.eo_names.specs.Readers.{NamedTerm}
use Rattle.eo_elab.specs.Meaning.{is_free_named_term}
use Rattle.eo_sig.specs.Signature.{Constant, Macro, constant_at, may_fold}
use Rattle.eo_term.specs.Tree.{uses_only}

-- its tree uses its own parameters alone
abbrev pub macro_is_bound : Macro → Bool
macro_is_bound m = uses_only (λ j. nat_lt j (length m.parameters)) m.tree

-- a name that a term is given means a tree without parameters
abbrev pub named_term_is_closed : NamedTerm → Bool
named_term_is_closed l = uses_only (λ j. nat_lt j 0) l.tree

-- names that may be declared, each of which is none of those before it
abbrev pub are_free : Context → (before named_terms : List NamedTerm) → Bool
are_free c before [] = true
are_free c before (l ∷ ls) = is_free_named_term c before l.name && are_free c (before ++ l ∷ []) ls

-- Terminators are values, and macros use their own parameters alone.
pub record FitsTerms (c : Context) : Type 0 where
  pub folds : (k : ℕ) (d : Constant) → constant_at c.signature k ≡ Some d → may_fold d.attribute ≡ true
  pub macros : list_all macro_is_bound c.macros ≡ true
