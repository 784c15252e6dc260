use Rattle.std.proofs.Common.{◌≡◌}
use Rattle.std.specs.Prelude.{is_some}
use Rattle.eo_shape.specs.Cases.{shaped_case}
use Rattle.eo_shape.specs.Shapes.{every}
use Rattle.eo_shape.proofs.cases.are_cases.Given as goal

-- all have the shape where those that are left have it
abbrev pub invariant-loop-item : goal.invariant-loop-item
invariant-loop-item l =
    is_some (every (shaped_case l.program) l.item-iterator) ≡ is_some (every (shaped_case l.program) l.items)
