use Rattle.std.proofs.Common.{◌≡◌, ◌≤◌, Ok, length, map, drop}
use Rattle.eo_sig.specs.Reading.{read_parameter, signature}
use Rattle.eo_pattern.specs.Slots.{held, AreBelow}
use Rattle.eo_type.specs.Known.{Extends}
use Rattle.eo_rule.specs.Uses.{check_types}
use Rattle.eo_rule.proofs.typing.check_types.Given as goal

abbrev pub invariant-loop-left : goal.invariant-loop-left
invariant-loop-left l = let old = l.fn.table.trees in
    record {
      within : l.left ≤ length l.params;
      below : AreBelow (length l.table.trees) l.subst;
      extends : Extends l.sig l.fn.table l.fn.types l.table l.types;
      checked : check_types (signature old l.sig) (held old l.fn.subst) l.left (drop l.left (map (read_parameter old) l.params)) ≡ Ok (held l.table.trees l.subst);
    }

abbrev pub decreases-loop-left : goal.decreases-loop-left
decreases-loop-left l = l.left
