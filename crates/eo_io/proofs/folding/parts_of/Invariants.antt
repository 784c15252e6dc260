use Rattle.std.proofs.Common.{◌≡◌, [], map, drop, reverse, fold}
use Rattle.std.specs.List.{slice_split}
use Rattle.eo_io.specs.Paths.{is_slash, is_absolute, with_part}
use Rattle.eo_io.proofs.folding.parts_of.Given as goal

-- the rest of the pieces go on from the parts that stay so far
abbrev pub invariant-loop-piece : goal.invariant-loop-piece
invariant-loop-piece l =
    fold (with_part l.is_absolute) (reverse (map (λ p. p.now) l.parts.items)) (map (λ p. p.now) (drop l.piece-index l.piece-items))
    ≡ fold (with_part (is_absolute l.path)) [] (slice_split is_slash l.path)
