-- The definitions that a vector computes with.
use Rattle.std.specs.Prelude.{ℕ}
use Rattle.eo_session.specs.Decisions as SessionDecisions
use Rattle.eo_run.specs.Seen as RunSeen
use Rattle.eo_run.proofs.Computed as RunComputed
use Rattle.eo_trim.specs.Needing as TrimNeeding
use Rattle.eo_trim.specs.Trim as TrimTrim

unfoldable pub computed : ℕ
unfolding RunComputed.computed SessionDecisions.scoped_decision SessionDecisions.placed_decision RunSeen.noted TrimNeeding.needs TrimTrim.trim
computed = 0
