-- The formulas that are asserted, by the numbers of their terms.
use Rattle.std.specs.Prelude.{ℕ, Bool, if◌then◌else◌, List, ◌∷◌, [], ◌++◌, nat_eq}
use Rattle.std.specs.List.{list_any}

abbrev pub has_id : List ℕ → ℕ → Bool
has_id ids i = list_any (nat_eq i) ids

-- the term is put after the others, unless it is one of them
abbrev pub with_id : List ℕ → ℕ → List ℕ
with_id ids i = if has_id ids i then ids else ids ++ i ∷ []
