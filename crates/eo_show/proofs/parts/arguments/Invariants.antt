use Rattle.std.proofs.Common.{◌<◌, ◌-◌, length}
use Rattle.eo_term.specs.Terms.{tree_at}
use Rattle.eo_show.specs.Plan.{last_arguments}
use Rattle.eo_show.proofs.Found.{IsFound}
use Rattle.eo_show.proofs.parts.arguments.Given as goal

abbrev pub invariant-loop : goal.invariant-loop
invariant-loop l = record {
  live : l.front < length l.table.trees;
  found : IsFound l.table (last_arguments l.count (tree_at l.table.trees l.fn.id)) l.found.items (last_arguments (l.count - l.counter) (tree_at l.table.trees l.front));
}
