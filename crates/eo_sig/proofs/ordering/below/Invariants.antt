use Rattle.std.proofs.Common.{◌≡◌, ℕ, nat_lt}
use Rattle.eo_term.specs.ParamSet.{has}
use Rattle.eo_sig.proofs.ordering.below.Given as goal

-- those before are in the set
abbrev pub invariant-loop-i : goal.invariant-loop-i
invariant-loop-i l = (j : ℕ) → has l.set j ≡ nat_lt j l.i
