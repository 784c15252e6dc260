use Rattle.std.proofs.Common.{◌≡◌, ℕ, ◌||◌, drop, map}
use Rattle.eo_term.specs.ParamSet.{has}
use Rattle.eo_term.specs.Tree.{occurs_in}
use Rattle.eo_term.specs.Terms.{tree_at}
use Rattle.eo_sig.proofs.patterns.add_occurring.Given as goal

-- with those of the terms that are left it is the whole
abbrev pub invariant-loop-id : goal.invariant-loop-id
invariant-loop-id l =
    (j : ℕ) → (has l.known j || occurs_in j (map (tree_at l.table.trees) (drop l.id-index l.ids))) ≡ (has l.initial.known j || occurs_in j (map (tree_at l.table.trees) l.ids))
