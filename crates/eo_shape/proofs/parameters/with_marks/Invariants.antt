use Rattle.std.proofs.Common.{◌≡◌}
use Rattle.eo_shape.specs.Reading.{read_parameter}
use Rattle.eo_shape.specs.Shapes.{with_marks}
use Rattle.eo_shape.proofs.parameters.with_marks.Given as goal

-- the marks that are left give what all of them give
abbrev pub invariant-loop-mark : goal.invariant-loop-mark
invariant-loop-mark l =
    with_marks (read_parameter l.marked) l.mark-iterator ≡ with_marks (read_parameter l.fn.parameter) l.marks
