-- What names mean in a scope, over a table and a signature: the definitions applied to the code's own values.
use Rattle.std.specs.Prelude.{ℕ, Bool, List, [], map, fold, Option, option_map, slice_get}
use Rattle.eo_base.specs.Checks.{Checked}
use Rattle.eo_sig.specs.declared.records.Attribute.{Attribute}
use Rattle.eo_sig.specs.Reading.{Kept, signature, macros, read_attribute}
use Rattle.eo_term.specs.Growth.{tree_in, trees_in}
use Rattle.eo_term.specs.Terms.{Terms}
use Rattle.eo_term.specs.Tree.{Tree}
use Rattle.eo_names.specs.declared.locals.LocalName.{LocalName}
use Rattle.eo_names.specs.declared.scope.Scope.{Scope}
use Rattle.eo_names.specs.declared.usage.Head.{Head}
use Rattle.eo_names.specs.Binders.{variable, variable_list}
use Rattle.eo_names.specs.Contexts.{Context, Local, is_list}
use Rattle.eo_names.specs.Folding.{applied_to_two, list_onto, last_onto, right_nil, by_attribute, folded, folded_within}
use Rattle.eo_names.specs.Grouped.{grouped, joined_items, if_low}
use Rattle.eo_names.specs.Meanings.{Resolved, meant, meant_before, macro_meant, or_nothing}
use Rattle.eo_names.specs.Names.{Binding, read_locals, read_pairs}
use Rattle.eo_names.specs.Readers.{NamedTerm}
use Rattle.eo_names.specs.Ready.{context}
use Rattle.eo_names.specs.Scopes.{bound_in}
use Rattle.eo_names.specs.Usage.{made_of}

-- what names mean, and before them the names that are local
pub record World : Type 0 where
  pub names : Context
  pub locals : List Local

abbrev pub world_of : Terms → Kept → List LocalName → World
world_of t k ls = record { names = context t.trees k; locals = read_locals t.trees ls }

abbrev pub world : Terms → Kept → Scope → World
world t k s = world_of t k (bound_in s)

-- what is read, or the first fault
abbrev pub Read : Type 0 → Type 0
Read A = Checked (A × List NamedTerm)

-- what a name means, over any trees; the same as the head of so many arguments, and of a macro by its number
abbrev pub meant_over : List Tree → Kept → Scope → List ℕ → Resolved
meant_over ts k s name = meant (context ts k) (read_locals ts (bound_in s)) name

abbrev pub meant_before_over : List Tree → Kept → Scope → List ℕ → ℕ → Resolved
meant_before_over ts k s name n = meant_before (context ts k) n (read_locals ts (bound_in s)) name

abbrev pub macro_meant_over : List Tree → Kept → ℕ → Resolved
macro_meant_over ts k n = or_nothing (option_map macro_meant (slice_get (macros ts k) n))

-- which trees represent lists in a scope
abbrev pub lists_in : Terms → Scope → Tree → Bool
lists_in t s = is_list (read_locals t.trees (bound_in s))

-- names with the trees of their terms
abbrev pub seen_in : Terms → List Binding → List (List ℕ × Tree)
seen_in t bs = read_pairs t.trees bs

-- arguments after a first one, grouped from the left
abbrev pub left_in : Terms → (f first : ℕ) → List ℕ → Tree
left_in t f first args = fold (applied_to_two (tree_in t f)) (tree_in t first) (trees_in t args)

-- an argument before the rest of a list, and the last one before its end
abbrev pub onto_in : Terms → Scope → (f a rest : ℕ) → Tree
onto_in t s f a rest = list_onto (lists_in t s (tree_in t a)) (tree_in t f) (tree_in t a) (tree_in t rest)

abbrev pub last_in : Terms → Scope → (f a nil : ℕ) → Tree
last_in t s f a nil = last_onto (lists_in t s (tree_in t a)) (tree_in t f) (tree_in t a) (tree_in t nil)

-- a list of arguments before its end
abbrev pub right_nil_in : Terms → Scope → (f nil : ℕ) → List ℕ → Tree
right_nil_in t s f nil args = right_nil (lists_in t s) (tree_in t f) (tree_in t nil) (trees_in t args)

-- a term with an attribute on arguments, where it joins nothing, what it joins, and with what folds that
abbrev pub grouped_in : Terms → Scope → ℕ → Attribute → List ℕ → Tree
grouped_in t s f a args = grouped (lists_in t s) (tree_in t f) (read_attribute t.trees a) (trees_in t args)

abbrev pub joined_in : Terms → ℕ → Attribute → List ℕ → Option (ℕ × List Tree)
joined_in t f a args = joined_items (tree_in t f) (read_attribute t.trees a) (trees_in t args)

abbrev pub attributed_in : Terms → Scope → ℕ → Attribute → List ℕ → (ℕ → List Tree → Checked Tree) → Checked Tree
attributed_in t s f a args fold_by = by_attribute fold_by (lists_in t s) (tree_in t f) (read_attribute t.trees a) (trees_in t args)

-- a term on one argument and each of the others
abbrev pub with_each : Terms → (f a : ℕ) → List ℕ → List Tree
with_each t f a others = map (applied_to_two (tree_in t f) (tree_in t a)) (trees_in t others)

module _ (w : World) where
  -- what a constant makes of arguments by its attribute, and the same with so many turns
  abbrev pub folded_in : ℕ → List Tree → Checked Tree
  folded_in k us = if_low (folded w.names.signature (is_list w.locals) k us)

  abbrev pub turns_in : (turns : ℕ) → ℕ → List Tree → Checked Tree
  turns_in turns k us = folded_within turns w.names.signature (is_list w.locals) k us

  abbrev pub turned_in : (turns : ℕ) → ℕ → List Tree → Checked Tree
  turned_in turns k us = if_low (turns_in turns k us)

  -- what is made of arguments
  abbrev pub made_in : Terms → Head → List Tree → Read Tree
  made_in t u args = made_of t.trees w.names w.locals u args []

  -- the list of the variables that these names and types become
  abbrev pub bound_list_in : ℕ → List (List ℕ × Tree) → Read Tree
  bound_list_in collector ps = variable_list w.names.signature (is_list w.locals) collector (map variable ps) []
