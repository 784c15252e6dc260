-- What was found for terms.
use Rattle.std.specs.Prelude.{◌≡◌, ℕ, nat_eq, List, Option, Some}
use Rattle.std.specs.Map.{lookup}

-- what is found for a term
abbrev pub told : List (ℕ × ℕ) → ℕ → Option ℕ
told memo k = lookup (nat_eq k) memo

-- R holds of each term and what is found for it
abbrev pub TellsOnly : (ℕ → ℕ → Type 0) → List (ℕ × ℕ) → Type 0
TellsOnly R memo = (k v : ℕ) → told memo k ≡ Some v → R k v
