use Rattle.std.proofs.Common.{◌≡◌, ◌<◌, ◌++◌, length, map, drop, All}
use Rattle.eo_term.specs.Growth.{Grows}
use Rattle.eo_term.specs.Terms.{tree_at}
use Rattle.eo_names.specs.Binders.{variables_of}
use Rattle.eo_names.specs.Names.{read_pairs}
use Rattle.eo_names.proofs.binders.make_variables.Given as goal

-- the variables so far, and those of the names that are left
abbrev pub invariant-loop-i : goal.invariant-loop-i
invariant-loop-i l = record {
  live : All (λ j. j < length l.table.trees) l.variables;
  grows : Grows l.fn.table l.table;
  trees : map (tree_at l.table.trees) l.variables ++ variables_of (read_pairs l.fn.table.trees (drop l.i l.names)) ≡ variables_of (read_pairs l.fn.table.trees l.names);
}
