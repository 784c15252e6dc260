-- What is kept of the constants of a name that has several.
use Rattle.std.specs.Prelude.{ℕ, Bool, List, Option, option_map, nat_eq, ◌&&◌, bytes_eq}
use Rattle.std.specs.Map.{lookup}
use Rattle.eo_sig.specs.declared.overloads.CountKey.{CountKey}
use Rattle.eo_sig.specs.declared.overloads.Overloads.{Overloads}
use Rattle.eo_sig.specs.declared.overloads.Rest.{Rest}
use Rattle.eo_sig.specs.Indexed.{Tables}

abbrev pub is_key : ℕ → ℕ → CountKey → Bool
is_key f n k = nat_eq f k.first && nat_eq n k.count

abbrev pub exact_in : Overloads → ℕ → ℕ → Option ℕ
exact_in o f n = lookup (is_key f n) o.exact.entries

abbrev pub rest_in : Overloads → ℕ → Option (ℕ × ℕ)
rest_in o f = option_map (λ (r : Rest). (r.least, r.constant)) (lookup (nat_eq f) o.rest.entries)

abbrev pub most_in : Overloads → ℕ → Option ℕ
most_in o f = lookup (nat_eq f) o.most.entries

-- with the numbers of the first constants by name
abbrev pub tables_of : List (List ℕ × ℕ) → Overloads → Tables
tables_of firsts o = record { first = λ w. lookup (bytes_eq w) firsts; exact = exact_in o; rest = rest_in o; most = most_in o }
