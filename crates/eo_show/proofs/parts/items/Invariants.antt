use Rattle.std.proofs.Common.{◌<◌, ◌-◌, length}
use Rattle.eo_term.specs.Terms.{tree_at}
use Rattle.eo_show.specs.Plan.{first_items}
use Rattle.eo_show.proofs.Found.{IsFound}
use Rattle.eo_show.proofs.parts.items.Given as goal

abbrev pub invariant-loop : goal.invariant-loop
invariant-loop l = record {
  live : l.rest < length l.table.trees;
  found : IsFound l.table (first_items l.count (tree_at l.table.trees l.fn.list)) l.found.items (first_items (l.count - l.counter) (tree_at l.table.trees l.rest));
}
