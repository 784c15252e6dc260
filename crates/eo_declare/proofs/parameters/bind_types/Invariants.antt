use Rattle.std.proofs.Common.{◌≡◌, ◌+◌, length}
use Rattle.eo_term.specs.Growth.{Grows}
use Rattle.eo_declare.specs.Declarations.{bind_types, unbound}
use Rattle.eo_declare.specs.Declaring.{read_bound, TypesBelow}
use Rattle.eo_declare.proofs.parameters.bind_types.Given as goal

-- the names that are left, over those read so far, give what all of them give
abbrev pub invariant-loop-name : goal.invariant-loop-name
invariant-loop-name l = record {
  left : bind_types unbound l.names ≡ bind_types (read_bound l.table.trees l.bound) l.name-iterator;
  live : TypesBelow (length l.table.trees) l.bound;
  count : length l.bound.params + length l.name-iterator ≡ length l.names;
  grows : Grows l.fn.table l.table;
}
