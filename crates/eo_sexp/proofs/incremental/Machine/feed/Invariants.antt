use Rattle.std.proofs.Common.{◌-◌, ◌≤◌, length}
use Rattle.eo_sexp.specs.Machine.{meaning}
use Rattle.eo_sexp.proofs.FedAnswers.{IsFeeding}
use Rattle.eo_sexp.proofs.incremental.Machine.feed.Given as goal

abbrev pub invariant-loop-taken : goal.invariant-loop-taken
invariant-loop-taken l = (l.taken ≤ length l.piece) × IsFeeding (meaning l.fn.self) l.piece l.first l.taken l.self

abbrev pub decreases-loop-taken : goal.decreases-loop-taken
decreases-loop-taken l = length l.piece - l.taken
