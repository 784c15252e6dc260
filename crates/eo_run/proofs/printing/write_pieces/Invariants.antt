use Rattle.std.proofs.Common.{◌≤◌, take}
use Rattle.eo_io.specs.Sink.{Adds}
use Rattle.eo_run.specs.Pieces.{text_of}
use Rattle.eo_run.proofs.printing.write_pieces.Given as goal

abbrev pub invariant-loop-piece : goal.invariant-loop-piece
invariant-loop-piece g l = record {
  written : Adds (text_of (take l.piece-index l.pieces)) (g.W.Sink.written l.fn.out) (g.W.Sink.written l.out);
  later : g.W.Sink.faults l.fn.out ≤ g.W.Sink.faults l.out;
}
