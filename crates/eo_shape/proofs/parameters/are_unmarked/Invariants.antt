use Rattle.std.proofs.Common.{◌≡◌}
use Rattle.std.specs.List.{list_all}
use Rattle.eo_shape.specs.Shapes.{is_unmarked}
use Rattle.eo_shape.proofs.parameters.are_unmarked.Given as goal

-- none has a mark where none of those that are left has one
abbrev pub invariant-loop-parameter : goal.invariant-loop-parameter
invariant-loop-parameter l = list_all is_unmarked l.parameter-iterator ≡ list_all is_unmarked l.params
