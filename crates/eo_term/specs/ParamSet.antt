-- Sets of parameters, each as the number whose bits they are.
use Rattle.std.specs.Prelude.{◌≡◌, ℕ, Bool, ◌||◌, nat_eq}
use Rattle.std.specs.Int.{bit_at}

unfoldable pub has : ℕ → ℕ → Bool
has set i = nat_eq (bit_at set i) 1

-- the set new holds those of the set old and those that pass the test
abbrev pub AddsAll : (ℕ → Bool) → ℕ → ℕ → Type 0
AddsAll more old new = (i : ℕ) → has new i ≡ (has old i || more i)
