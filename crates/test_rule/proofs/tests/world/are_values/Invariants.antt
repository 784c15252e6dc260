use Rattle.std.proofs.Common.{◌≡◌, drop, map}
use Rattle.std.specs.List.{list_all}
use Rattle.eo_term.specs.Tree.{is_value}
use Rattle.eo_term.specs.Terms.{tree_at}
use Rattle.test_rule.proofs.tests.world.are_values.Given as goal

abbrev pub invariant-loop-id : goal.invariant-loop-id
invariant-loop-id l = list_all is_value (map (tree_at l.table.trees) (drop l.id-index l.ids)) ≡ list_all is_value (map (tree_at l.table.trees) l.ids)
