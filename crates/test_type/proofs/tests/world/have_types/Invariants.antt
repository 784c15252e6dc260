use Rattle.std.proofs.Common.{◌≤◌, length}
use Rattle.eo_type.specs.Known.{Fit}
use Rattle.test_type.proofs.tests.world.have_types.Given as goal

abbrev pub invariant-loop-id : goal.invariant-loop-id
invariant-loop-id l = record {
  fits : Fit l.sig l.table l.types;
  more : length l.fn.table.trees ≤ length l.table.trees;
}
