use Rattle.std.proofs.Common.{◌≤◌, All, take}
use Rattle.eo_stack.specs.Scopes.{IsLightSlot}
use Rattle.eo_stack.proofs.bodies.tallest_value.Given as goal

abbrev pub invariant-loop-slot : goal.invariant-loop-slot
invariant-loop-slot l = record {
  one : 1 ≤ l.tallest;
  low : l.tallest ≤ 1_000_000;
  all : All (IsLightSlot l.table.trees l.tallest) (take l.slot-index l.slots);
}
