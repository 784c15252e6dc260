use Rattle.std.proofs.Common.{◌≡◌, All, length, take}
use Rattle.eo_term.specs.Growth.{tree_in}
use Rattle.eo_pattern.specs.Slots.{held, AreBelow, HasRoom}
use Rattle.eo_pattern.proofs.room.make_room.Given as goal

abbrev pub invariant-loop-pattern : goal.invariant-loop-pattern
invariant-loop-pattern l = record {
  room : All (λ i. HasRoom l.subst (tree_in l.table i)) (take l.pattern-index l.patterns);
  held : held l.table.trees l.subst ≡ held l.table.trees l.fn.subst;
  below : AreBelow (length l.table.trees) l.subst;
}
