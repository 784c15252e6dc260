use Rattle.std.proofs.Common.{◌+◌, ◌++◌, ◌∷◌, [], All}
use Rattle.eo_term.specs.Walk.{IsUnderWay, left}
use Rattle.eo_sig.specs.Growth.{GrowsUnder}
use Rattle.eo_type.specs.declared.refused.Stop.{Stop}
use Rattle.eo_type.specs.Known.{Fit, Keeps, FindsBelow, type_at}
use Rattle.eo_type.specs.Outcomes.{Stops}
use Rattle.eo_type.proofs.types.find_walk.Given as goal

-- what stops a term that was begun stops the one that was asked for
abbrev pub invariant-loop-ty : goal.invariant-loop-ty
invariant-loop-ty l =
    record {
      begun : IsUnderWay (l.fn.id + 1) l.fn.id (record { memo = l.known; waiting = l.waiting.items; top = l.top });
      leads : All (λ x. (e : Stop) → Stops e (type_at l.sig l.fn.table x) → Stops e (type_at l.sig l.fn.table l.fn.id)) (l.waiting.items ++ l.top ∷ []);
      keeps : Keeps l.fn.known l.known;
      older : FindsBelow (l.fn.id + 1) l.fn.known l.known;
      fits : Fit l.sig l.table l.known;
      grows : GrowsUnder l.sig l.fn.table l.table;
    }

abbrev pub decreases-loop-ty : goal.decreases-loop-ty
decreases-loop-ty l = left (l.fn.id + 1) (record { memo = l.known; waiting = l.waiting.items; top = l.top })
