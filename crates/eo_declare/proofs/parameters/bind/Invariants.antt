use Rattle.std.proofs.Common.{◌≡◌, ◌+◌, length}
use Rattle.eo_term.specs.Growth.{Grows}
use Rattle.eo_declare.specs.Declarations.{bind, unbound}
use Rattle.eo_declare.specs.Declaring.{read_bound, BoundBelow}
use Rattle.eo_elab.specs.Worlds.{context_at}
use Rattle.eo_declare.proofs.parameters.bind.Given as goal

-- the parameters that are left, over those read so far, give what all of them give
abbrev pub invariant-loop-shape : goal.invariant-loop-shape
invariant-loop-shape l =
    let c = context_at l.fn.table l.sig l.file_kind in
    record {
      left : bind c unbound l.shapes ≡ bind c (read_bound l.table.trees l.bound) l.shape-iterator;
      live : BoundBelow (length l.table.trees) l.sig l.bound;
      count : length l.bound.params + length l.shape-iterator ≡ length l.shapes;
      grows : Grows l.fn.table l.table;
    }
