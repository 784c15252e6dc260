use Rattle.std.proofs.Common.{◌-◌, ◌≤◌, length, take}
use Rattle.eo_io.specs.Sink.{Adds}
use Rattle.eo_io.proofs.writing.write_all.Given as goal

-- the first `done` bytes are written, and the count of faults has not fallen
abbrev pub invariant-loop-done : goal.invariant-loop-done
invariant-loop-done g l = record {
  within : l.done ≤ length l.bytes;
  front : Adds (take l.done l.bytes) (g.W.Sink.written l.initial.out) (g.W.Sink.written l.out);
  later : g.W.Sink.faults l.initial.out ≤ g.W.Sink.faults l.out;
}

abbrev pub decreases-loop-done : goal.decreases-loop-done
decreases-loop-done g l = length l.bytes - l.done
