use Rattle.std.proofs.Common.{◌≡◌, ◌-◌, ◌≤◌, All, length, take}
use Rattle.eo_sexp.proofs.plain.blank_run.Given as goal

abbrev pub invariant-loop-run : goal.invariant-loop-run
invariant-loop-run l = (l.run ≤ length l.bytes) × All (λ x. x ≡ 32) (take l.run l.bytes)

abbrev pub decreases-loop-run : goal.decreases-loop-run
decreases-loop-run l = length l.bytes - l.run
