use Rattle.std.proofs.Common.{◌≡◌, map, drop}
use Rattle.eo_term.specs.Growth.{trees_in}
use Rattle.eo_sig.specs.Reading.{read_case}
use Rattle.eo_stack.specs.Bodies.{first_case}
use Rattle.eo_stack.proofs.bodies.first_body.Given as goal

abbrev pub invariant-loop-case : goal.invariant-loop-case
invariant-loop-case l = record {
  same : l.table ≡ l.fn.table;
  rest : first_case (map (read_case l.fn.table.trees) (drop l.case-index l.cases)) (trees_in l.fn.table l.args) ≡ first_case (map (read_case l.fn.table.trees) l.cases) (trees_in l.fn.table l.args);
}
