use Rattle.std.proofs.Common.{◌-◌, length}
use Rattle.eo_base.specs.Limits.{limits}
use Rattle.eo_sexp.specs.Reader.{RunsTo}
use Rattle.eo_sexp.proofs.reader.Reader.run_within.Given as goal

abbrev pub invariant-loop-taken : goal.invariant-loop-taken
invariant-loop-taken l = RunsTo limits l.fn.buffer l.fn.self l.rest l.taken l.lines l.buffer l.self

abbrev pub decreases-loop-taken : goal.decreases-loop-taken
decreases-loop-taken l = length l.rest - l.taken
