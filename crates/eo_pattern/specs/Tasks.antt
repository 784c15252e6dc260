-- What a search for a match has still to do.
use Rattle.std.specs.Prelude.{◌≡◌, ℕ, ◌+◌, ◌*◌, ◌<◌, ◌≤◌, List, [], ◌∷◌, ◌++◌, length, Some}
use Rattle.eo_term.specs.Tree.{Tree, to_list, height}
use Rattle.eo_term.specs.Terms.{Terms, tree_at}
use Rattle.eo_term.specs.Arguments.{arguments_of, from}
use Rattle.eo_pattern.specs.Matching.{Assignment, Matches}
use Rattle.eo_pattern.specs.Slots.{Slots, held, Leads, Keeps}
use Rattle.eo_pattern.specs.Matched.{IsPair, ArePairs}
use Rattle.eo_pattern.specs.ToDo.{ToDo}
use Rattle.eo_pattern.specs.Sizes.{size, size_all}
use Rattle.eo_pattern.specs.declared.tasks.Task.{Task}
use Rattle.eo_pattern.specs.declared.tasks.Task.TheVariants as task

module _ (ts : List Tree) where
  -- the patterns that a task has still to make equal to its terms
  abbrev pub patterns_of : Task → List Tree
  patterns_of (task.Pair p t) = tree_at ts p ∷ []
  patterns_of (task.Args p t next count) = to_list (from next (arguments_of (tree_at ts p)))
  patterns_of (task.Done p t) = []

  abbrev pub terms_of : Task → List Tree
  terms_of (task.Pair p t) = tree_at ts t ∷ []
  terms_of (task.Args p t next count) = to_list (from next (arguments_of (tree_at ts t)))
  terms_of (task.Done p t) = []

  -- those of all tasks
  abbrev pub patterns_left : List Task → List Tree
  patterns_left [] = []
  patterns_left (w ∷ ws) = patterns_of w ++ patterns_left ws

  abbrev pub terms_left : List Task → List Tree
  terms_left [] = []
  terms_left (w ∷ ws) = terms_of w ++ terms_left ws

  -- more than twice the room that a task takes, itself and all that it becomes
  abbrev pub takes : Task → ℕ
  takes (task.Pair p t) = 2 * height (tree_at ts p) + 1
  takes (task.Args p t next count) = 2 * height (tree_at ts p)
  takes (task.Done p t) = 3

  -- there is room for each task and all that it becomes, over those after it
  abbrev pub HaveRoom : ℕ → List Task → Type 0
  HaveRoom room [] = Unit {0}
  HaveRoom room (w ∷ ws) = (length ws + takes w ≤ room + 2) × HaveRoom room ws

  -- what is left to look at
  abbrev pub weight : Task → ℕ
  weight (task.Pair p t) = 3 * size (tree_at ts p)
  weight (task.Args p t next count) = 3 * size_all (from next (arguments_of (tree_at ts p)))
  weight (task.Done p t) = 1

  abbrev pub weights : List Task → ℕ
  weights [] = 0
  weights (w ∷ ws) = weight w + weights ws

  -- what makes these patterns equal to these trees makes the pair equal that is done by then
  abbrev pub ClosesOne : Assignment → (ps us : List Tree) → Task → Type 0
  ClosesOne σ ps us (task.Done p t) = (ρ : Assignment) → Matches σ ps us ρ → Matches ρ (tree_at ts p ∷ []) (tree_at ts t ∷ []) ρ
  ClosesOne σ ps us w = Unit {0}

  -- the same for each pair that is done by the tasks in front of it, after these patterns
  abbrev pub Closes : Assignment → (ps us : List Tree) → List Task → Type 0
  Closes σ ps us [] = Unit {0}
  Closes σ ps us (w ∷ ws) = ClosesOne σ ps us w × Closes σ (ps ++ patterns_of w) (us ++ terms_of w) ws

-- the terms of a task are there, and a place for each parameter of its patterns
abbrev pub IsLive : Terms → Slots → Task → Type 0
IsLive t s (task.Pair p u) = IsPair t s p u
IsLive t s (task.Args p u next count) = ArePairs t s p u count
IsLive t s (task.Done p u) = Unit {0}

abbrev pub AreLive : Terms → Slots → List Task → Type 0
AreLive t s [] = Unit {0}
AreLive t s (w ∷ ws) = IsLive t s w × AreLive t s ws

-- a task that comes first: its terms are there, and a pair that is done by then is equal
pub record IsFirst (t : Terms) (s : Slots) (w : Task) : Type 0 where
  pub live : IsLive t s w
  pub closes : ClosesOne t.trees (held t.trees s) [] [] w

-- the room of the slots and of the tasks stays, and what the slots hold then is below n
pub record Stays (n : ℕ) (old new : Slots) (before after : ToDo) : Type 0 where
  pub slots : Keeps n old new
  pub tasks : after.room ≡ before.room

-- Tasks that are there, and lead from first patterns and trees to what is left of them.
pub record AreLeft (t : Terms) (first : Slots) (ps us : List Tree) (now : Slots) (todo : ToDo) : Type 0 where
  pub live : AreLive t now todo.tasks
  pub leads : Leads (held t.trees first) ps us (held t.trees now) (patterns_left t.trees todo.tasks) (terms_left t.trees todo.tasks)
  pub closes : Closes t.trees (held t.trees now) [] [] todo.tasks
  pub room : HaveRoom t.trees todo.room todo.tasks

-- A task becomes others, which are left in its place. With so much more they would still be less than it.
pub record Becomes (spare : ℕ) (t : Terms) (old : Slots) (w : Task) (before : ToDo) (new : Slots) (after : ToDo) : Type 0 where
  pub more : List Task
  pub tasks : after.tasks ≡ more ++ before.tasks
  pub room : after.room ≡ before.room
  pub live : AreLive t new more
  pub leads : Leads (held t.trees old) (patterns_of t.trees w) (terms_of t.trees w) (held t.trees new) (patterns_left t.trees more) (terms_left t.trees more)
  pub closes : Closes t.trees (held t.trees new) [] [] more
  pub fits : HaveRoom t.trees before.room before.tasks → HaveRoom t.trees before.room after.tasks
  pub extends : (i : ℕ) (u : Tree) → held t.trees old i ≡ Some u → held t.trees new i ≡ Some u
  pub less : weights t.trees more + spare < weight t.trees w

-- no assignment does a task
abbrev pub IsRefused : Terms → Slots → Task → Type 0
IsRefused t s w = (σ : Assignment) → Matches (held t.trees s) (patterns_of t.trees w) (terms_of t.trees w) σ → ⊥
