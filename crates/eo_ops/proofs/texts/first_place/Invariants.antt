use Rattle.std.proofs.Common.{◌≡◌, ◌+◌, drop, option_map, ℕ}
use Rattle.eo_ops.specs.Operators.{place_of}
use Rattle.eo_ops.proofs.texts.first_place.Given as goal

abbrev pub invariant-loop-place : goal.invariant-loop-place
invariant-loop-place l = option_map (λ (k : ℕ). l.place + k) (place_of l.t (drop l.place l.s)) ≡ place_of l.t l.s
