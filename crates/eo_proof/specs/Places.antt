-- How a name is found by the number that it ends in, and else by its hash.
use Rattle.std.specs.Prelude.{◌≡◌, ◌≢◌, ℕ, ◌*◌, ◌+◌, ◌-◌, ◌⊎◌, nat_le, nat_lt, ◌&&◌, if◌then◌else◌, List, [], ◌∷◌, Option, Some, None, option_and_then, slice_get, bytes_eq}
use Rattle.std.specs.Map.{lookup}

-- a name, and its place
abbrev pub Entry : Type 0
Entry = List ℕ × ℕ

-- the number after one more byte: a digit is its last one, any other byte ends it
abbrev pub next_number : ℕ → ℕ → ℕ
next_number n b = if nat_le 48 b && nat_lt b 58 && nat_lt n 100000000 then n * 10 + (b - 48) else 0

unfoldable pub number_from : ℕ → List ℕ → ℕ
number_from n [] = n
number_from n (b ∷ bs) = number_from (next_number n b) bs

-- the number that a name ends in, 0 where it ends in none; one of more than nine digits starts again after its tenth
abbrev pub number_in : List ℕ → ℕ
number_in name = number_from 0 name

abbrev pub held_at : List ℕ → (place : ℕ) → Option (List ℕ) → Option ℕ
held_at name place None = None
held_at name place (Some other) = if bytes_eq name other then Some place else None

-- the place, where the name is there
abbrev pub at_place : List (List ℕ) → List ℕ → (place : ℕ) → Option ℕ
at_place names name place = held_at name place (slice_get names place)

abbrev pub first_of : Option ℕ → Option ℕ → Option ℕ
first_of (Some place) other = Some place
first_of None other = other

-- The place of a name: the one that its number leads to, where the name is there, or else the one that its hash leads to.
abbrev pub place_in : List (List ℕ) → (numbered : List ℕ) → (others : List Entry) → List ℕ → Option ℕ
place_in names numbered others name =
    first_of (option_and_then (at_place names name) (slice_get numbered (number_in name)))
    (option_and_then (at_place names name) (lookup (bytes_eq name) others))

-- each name is found
abbrev pub AreFound : List (List ℕ) → (numbered : List ℕ) → (others : List Entry) → Type 0
AreFound names numbered others = (i : ℕ) (name : List ℕ) → slice_get names i ≡ Some name → place_in names numbered others name ≡ Some i

-- the number leads to no name that ends in it
abbrev pub IsFree : List (List ℕ) → (numbered : List ℕ) → (number : ℕ) → Type 0
IsFree names numbered number = (i : ℕ) (name : List ℕ) → slice_get numbered number ≡ Some i → slice_get names i ≡ Some name → number_in name ≢ number

-- the number leads to the place now, other numbers where they led, and those between to no place
pub record LeadsTo (old : List ℕ) (number place : ℕ) (new : List ℕ) : Type 0 where
  pub here : slice_get new number ≡ Some place
  pub others : (k : ℕ) → k ≢ number → (slice_get new k ≡ slice_get old k) ⊎ ((slice_get old k ≡ None) × (slice_get new k ≡ Some 4294967295))
