use Rattle.std.proofs.Common.{◌≡◌, ◌++◌, drop, map, All}
use Rattle.std.specs.Prelude.{option_map}
use Rattle.eo_term.specs.Terms.{tree_at}
use Rattle.eo_ops.specs.Operators as ops
use Rattle.eo_ops.specs.Lit.{lit, IsWellFormed}
use Rattle.eo_type.proofs.literals.literals.Given as goal

-- the literals that were found come before those that are left
abbrev pub invariant-loop-id : goal.invariant-loop-id
invariant-loop-id l = record {
  value : ops.literals (map (tree_at l.table.trees) l.ids) ≡ option_map (λ ls. map lit l.found.items ++ ls) (ops.literals (map (tree_at l.table.trees) (drop l.id-index l.ids)));
  well_formed : All IsWellFormed l.found.items;
}
