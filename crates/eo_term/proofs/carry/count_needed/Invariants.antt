use Rattle.std.proofs.Common.{◌≡◌, ◌≤◌, take}
use Rattle.eo_term.specs.Carry.{trues}
use Rattle.eo_term.proofs.carry.count_needed.Given as goal

abbrev pub invariant-loop-b : goal.invariant-loop-b
invariant-loop-b l = record {
  count : l.count ≡ trues (take l.b-index l.needed);
  small : l.count ≤ l.b-index;
}
