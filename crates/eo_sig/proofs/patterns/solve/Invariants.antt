use Rattle.std.proofs.Common.{◌≡◌, ℕ, ◌≤◌, List, length, drop, map}
use Rattle.eo_term.specs.Tree.{Tree, occurs_in}
use Rattle.eo_sig.specs.Signature as sig
use Rattle.eo_sig.specs.Reading.{read_parameter}
use Rattle.eo_term.specs.ParamSet.{has}
use Rattle.eo_sig.proofs.patterns.solve.Given as goal

abbrev pub decreases-loop-i : goal.decreases-loop-i
decreases-loop-i l = l.i

-- what the parameters from i on give
abbrev pub invariant-loop-i : goal.invariant-loop-i
invariant-loop-i l =
    (l.i ≤ length l.params)
    × ((patterns : List Tree) → ((j : ℕ) → has l.initial.known j ≡ occurs_in j patterns) → (j : ℕ) → has l.known j ≡ sig.known patterns l.i (map (read_parameter l.table.trees) (drop l.i l.params)) j)
