use Rattle.std.proofs.Common.{◌++◌, ◌∷◌, [], length, All}
use Rattle.eo_term.specs.Memo.{TellsOnly}
use Rattle.eo_term.specs.Growth.{Grows}
use Rattle.eo_term.specs.Walk.{IsUnderWay, left}
use Rattle.eo_pattern.specs.Slots.{held, IsPut}
use Rattle.eo_pattern.proofs.Steps.{Overtops}
use Rattle.eo_pattern.proofs.substitution.put_walk.Given as goal

abbrev pub invariant-loop-made : goal.invariant-loop-made
invariant-loop-made l = record {
  begun : IsUnderWay (length l.fn.table.trees) l.fn.walk.top l.walk;
  leads : All (Overtops (held l.fn.table.trees l.subst) l.fn.table.trees l.fn.walk.top) (l.walk.waiting ++ l.walk.top ∷ []);
  memo : TellsOnly (IsPut (held l.table.trees l.subst) l.table.trees) l.walk.memo;
  grows : Grows l.fn.table l.table;
}

abbrev pub decreases-loop-made : goal.decreases-loop-made
decreases-loop-made l = left (length l.fn.table.trees) l.walk
