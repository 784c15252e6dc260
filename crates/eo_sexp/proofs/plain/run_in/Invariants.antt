use Rattle.std.proofs.Common.{◌≡◌, ◌-◌, ◌≤◌, All, get_or, length, take}
use Rattle.eo_sexp.proofs.plain.run_in.Given as goal

abbrev pub invariant-loop-run : goal.invariant-loop-run
invariant-loop-run l = (l.run ≤ length l.bytes) × All (λ x. get_or l.table x 0 ≡ 49) (take l.run l.bytes)

abbrev pub decreases-loop-run : goal.decreases-loop-run
decreases-loop-run l = length l.bytes - l.run
