-- Facts by name, in scopes. Each scope but the outermost has an assumption.
use Rattle.std.specs.Prelude.{ℕ, Bool, false, not, List, [], ◌∷◌, ◌++◌, map, length, find, Option, is_some, option_map, drop, slice_get, bytes_eq}
use Rattle.std.specs.List.{list_any}
use Rattle.eo_term.specs.Tree.{Tree, tree_eq, truth}

-- the scopes that may be open at once
abbrev pub scope_limit : ℕ
scope_limit = 1000

-- a formula, with its name and the number of the command that made it
pub record Fact : Type 0 where
  pub name : List ℕ
  pub formula : Tree
  pub number : ℕ

-- a scope, with its assumption among its facts
pub record Scope : Type 0 where
  pub hypothesis : Tree
  pub facts : List Fact

pub record Scopes : Type 0 where
  pub outermost : List Fact
  -- the open scopes, the innermost first
  pub opened : List Scope

abbrev pub no_facts : Scopes
no_facts = record { outermost = []; opened = [] }

abbrev pub depth : Scopes → ℕ
depth f = length f.opened

-- the facts of the open scopes, the oldest first
abbrev pub opened_facts : List Scope → List Fact
opened_facts [] = []
opened_facts (s ∷ ss) = opened_facts ss ++ s.facts

-- the facts of all scopes, the oldest first
abbrev pub live_facts : Scopes → List Fact
live_facts f = f.outermost ++ opened_facts f.opened

abbrev pub first_named : List Fact → List ℕ → Option Fact
first_named facts name = find (λ fact. bytes_eq fact.name name) facts

abbrev pub formula_named : List Fact → List ℕ → Option Tree
formula_named facts name = option_map (λ fact. fact.formula) (first_named facts name)

-- the number of the command that made the fact of this name
abbrev pub number_named : Scopes → List ℕ → Option ℕ
number_named f name = option_map (λ fact. fact.number) (first_named (live_facts f) name)

abbrev pub fact_named : Scopes → List ℕ → Option Tree
fact_named f name = formula_named (live_facts f) name

abbrev pub is_live : Scopes → List ℕ → Bool
is_live f name = is_some (fact_named f name)

-- the assumptions of the open scopes, the innermost first
abbrev pub hypotheses : Scopes → List Tree
hypotheses f = map (λ s. s.hypothesis) f.opened

abbrev pub fact : List ℕ → Tree → ℕ → Fact
fact name formula number = record { name = name; formula = formula; number = number }

-- one fact more, in the innermost scope
abbrev pub in_innermost : List Fact → List Scope → Fact → Scopes
in_innermost facts [] f = record { outermost = facts ++ f ∷ []; opened = [] }
in_innermost facts (s ∷ ss) f = record { outermost = facts; opened = record s { facts = s.facts ++ f ∷ [] } ∷ ss }

unfoldable pub with_fact : Scopes → List ℕ → Tree → (number : ℕ) → Scopes
with_fact f name formula number = in_innermost f.outermost f.opened (fact name formula number)

-- a scope more, with its assumption as the first fact
unfoldable pub with_scope : Scopes → List ℕ → Tree → (number : ℕ) → Scopes
with_scope f name hypothesis number =
    record f { opened = record { hypothesis = hypothesis; facts = fact name hypothesis number ∷ [] } ∷ f.opened }

-- without the innermost scope
unfoldable pub outside : Scopes → Scopes
outside f = record f { opened = drop 1 f.opened }

-- the assumption of the innermost scope
unfoldable pub innermost_hypothesis : Scopes → Option Tree
innermost_hypothesis f = slice_get (hypotheses f) 0

-- a name that stays live once the innermost scope is closed is not free
abbrev pub is_free_outside : Scopes → List ℕ → Bool
is_free_outside f name = not (is_live (outside f) name)

-- whether `false` is a fact of the outermost scope
abbrev pub has_false : Scopes → Bool
has_false f = list_any (λ fact. tree_eq fact.formula (truth false)) f.outermost

-- the command that made the first `false` among the outermost facts
abbrev pub first_false : Scopes → Option ℕ
first_false f = option_map (λ fact. fact.number) (find (λ fact. tree_eq fact.formula (truth false)) f.outermost)

abbrev pub formulas : Scopes → List Tree
formulas f = map (λ fact. fact.formula) (live_facts f)
