use Rattle.std.proofs.Common.{◌≡◌, ◌≤◌, length}
use Rattle.std.specs.List.{list_any}
use Rattle.eo_term.specs.Tree.{tree_eq}
use Rattle.eo_term.specs.Growth.{tree_in}
use Rattle.eo_stated.specs.Checking.{stated_of, context_of}
use Rattle.eo_stated.proofs.checker.Checker.is_assumed.Given as goal

abbrev pub invariant-loop-at : goal.invariant-loop-at
invariant-loop-at l = record {
  within : l.at ≤ length l.self.contexts.items;
  same : list_any (tree_eq (tree_in l.self.table l.id)) (context_of (stated_of l.self).contexts l.context).assumed ≡ list_any (tree_eq (tree_in l.self.table l.id)) (context_of (stated_of l.self).contexts l.at).assumed;
}

abbrev pub decreases-loop-at : goal.decreases-loop-at
decreases-loop-at l = l.at
