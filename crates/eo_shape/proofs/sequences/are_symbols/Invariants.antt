use Rattle.std.proofs.Common.{◌≡◌}
use Rattle.std.specs.Prelude.{is_some}
use Rattle.eo_shape.specs.Shapes.{every}
use Rattle.eo_shape.specs.Words.{symbol_of}
use Rattle.eo_shape.proofs.sequences.are_symbols.Given as goal

-- all are symbols where those that are left are
abbrev pub invariant-loop-item : goal.invariant-loop-item
invariant-loop-item l =
    is_some (every symbol_of l.item-iterator) ≡ is_some (every symbol_of l.items)
