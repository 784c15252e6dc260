-- What a constant makes of its arguments, over the terms of a table.
use Rattle.std.specs.Prelude.{ℕ, ◌<◌, Bool, List, map, All, Option, Some, None, Ok}
use Rattle.std.specs.List.{list_any}
use Rattle.eo_base.specs.Checks.{Checked}
use Rattle.eo_term.specs.Tree.{Tree, is_tall}
use Rattle.eo_term.specs.Terms.{tree_at}
use Rattle.eo_names.specs.declared.folding.Turn.{Turn}
use Rattle.eo_names.specs.declared.folding.Turn.TheVariants as turn

-- what becomes of it, where `fold_by` folds another constant
abbrev pub after : (ℕ → List Tree → Checked Tree) → List Tree → Turn → Checked Tree
after fold_by ts (turn.Made i) = Ok (tree_at ts i)
after fold_by ts (turn.Joined g items) = fold_by g (map (tree_at ts) items)

-- its terms are below n
abbrev pub TurnBelow : ℕ → Turn → Type 0
TurnBelow n (turn.Made i) = i < n
TurnBelow n (turn.Joined g items) = All (λ i. i < n) items

-- whether the tree, or one that another constant joins in its place, is too tall
abbrev pub is_tall_turn : Tree → Option (ℕ × List Tree) → Bool
is_tall_turn t None = is_tall t
is_tall_turn t (Some items) = list_any is_tall items.1

-- whether terms are still to be joined, as a number
abbrev pub joins : Turn → ℕ
joins (turn.Made i) = 0
joins (turn.Joined g items) = 1
