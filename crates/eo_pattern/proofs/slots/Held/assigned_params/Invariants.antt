use Rattle.std.proofs.Common.{◌≡◌, ℕ, ◌<◌, ◌≤◌, false, is_some, slice_get}
use Rattle.std.specs.Option.{option_flatten}
use Rattle.eo_term.specs.ParamSet.{has}
use Rattle.eo_pattern.proofs.slots.Held.assigned_params.Given as goal

-- the set has those of the parameters so far that have a value
abbrev pub invariant-loop-i : goal.invariant-loop-i
invariant-loop-i l = record {
  tells : (k : ℕ) → k < l.i → has l.set k ≡ is_some (option_flatten (slice_get l.self-inside.values.items k));
  others : (k : ℕ) → l.i ≤ k → has l.set k ≡ false;
}
