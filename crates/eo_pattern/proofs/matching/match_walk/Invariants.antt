use Rattle.std.proofs.Common.{◌≡◌, [], ◌∷◌, length}
use Rattle.eo_term.specs.Terms.{tree_at}
use Rattle.eo_pattern.specs.Slots.{held, Keeps}
use Rattle.eo_pattern.specs.Matched.{AreMatched}
use Rattle.eo_pattern.specs.Tasks.{AreLeft, weights}
use Rattle.eo_pattern.proofs.matching.match_walk.Given as goal

-- what matches the pattern and the term is what does the tasks that are left, from what is held
abbrev pub invariant-loop-task : goal.invariant-loop-task
invariant-loop-task l =
    let ts = l.table.trees in
    record {
      left : AreLeft l.table l.fn.subst (tree_at ts l.fn.pattern ∷ []) (tree_at ts l.fn.term ∷ []) l.subst l.tasks;
      matched : AreMatched ts (held ts l.subst) l.pairs;
      kept : Keeps (length ts) l.fn.subst l.subst;
      room : l.tasks.room ≡ l.fn.tasks.room;
    }

abbrev pub decreases-loop-task : goal.decreases-loop-task
decreases-loop-task l = weights l.table.trees l.tasks.tasks
