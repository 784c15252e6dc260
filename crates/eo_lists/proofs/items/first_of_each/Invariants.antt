use Rattle.std.proofs.Common.{◌≡◌, drop, nat_eq, []}
use Rattle.indexmap.specs.IndexSet.{insert_all}
use Rattle.eo_lists.proofs.items.first_of_each.Given as goal

abbrev pub invariant-loop-item : goal.invariant-loop-item
invariant-loop-item l = insert_all nat_eq l.found.keys (drop l.item-index l.items) ≡ insert_all nat_eq [] l.items
