use Rattle.std.proofs.Common.{refl, []}
use Rattle.eo_run.proofs.PrintLemmas.{front_of_pieces}
use Rattle.eo_run.proofs.printing.write_pieces.Goals as goal

pub returns-then-not-write_all-clause-front : goal.returns-then-not-write_all-clause-front
returns-then-not-write_all-clause-front g c =
    front_of_pieces c.args.pieces.now c.loop-piece.piece-index _ (record { ref_ptr = (0, 0); now = [] }) c.loop-piece-test.true refl _ _ _ c.loop-piece.invariant.written
    c.if-not-write_all.ensures.front
