use Rattle.std.proofs.Common.{◌≡◌, ◌<◌, length}
use Rattle.eo_term.specs.Growth.{tree_in, Grows}
use Rattle.eo_declare.specs.Declarations.{sort_type}
use Rattle.eo_declare.proofs.constants.sort_type.Given as goal

abbrev pub invariant-loop : goal.invariant-loop
invariant-loop l = record {
  live : l.made < length l.table.trees;
  tree : tree_in l.table l.made ≡ sort_type l.counter;
  grows : Grows l.fn.table l.table;
}
