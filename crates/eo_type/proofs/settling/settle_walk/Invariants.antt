use Rattle.std.proofs.Common.{◌++◌, ◌∷◌, [], length, All}
use Rattle.eo_term.specs.Memo.{TellsOnly}
use Rattle.eo_term.specs.Growth.{Grows}
use Rattle.eo_term.specs.Walk.{IsUnderWay, left}
use Rattle.eo_type.specs.Steps.{IsSettled}
use Rattle.eo_type.proofs.SettleSteps.{StopsAll}
use Rattle.eo_type.proofs.settling.settle_walk.Given as goal

abbrev pub invariant-loop-made : goal.invariant-loop-made
invariant-loop-made l = record {
  begun : IsUnderWay (length l.fn.table.trees) l.fn.walk.top l.walk;
  leads : All (StopsAll l.fn.table l.fn.walk.top) (l.walk.waiting ++ l.walk.top ∷ []);
  memo : TellsOnly (IsSettled l.table) l.walk.memo;
  grows : Grows l.fn.table l.table;
}

abbrev pub decreases-loop-made : goal.decreases-loop-made
decreases-loop-made l = left (length l.fn.table.trees) l.walk
