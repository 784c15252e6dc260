use Rattle.std.proofs.Common.{◌≡◌}
use Rattle.std.specs.Prelude.{is_some}
use Rattle.eo_shape.specs.Sequences.{shaped_pair}
use Rattle.eo_shape.specs.Shapes.{every}
use Rattle.eo_shape.proofs.sequences.are_pairs.Given as goal

-- all have the shape where those that are left have it
abbrev pub invariant-loop-item : goal.invariant-loop-item
invariant-loop-item l =
    is_some (every shaped_pair l.item-iterator) ≡ is_some (every shaped_pair l.items)
