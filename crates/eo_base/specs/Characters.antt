-- Characters of strings, as numbers.
use Rattle.std.specs.Prelude.{ℕ, ◌≤◌, List, All}

abbrev pub greatest_character : ℕ
greatest_character = 0x2_ffff

abbrev pub AreCharacters : List ℕ → Type 0
AreCharacters = All (λ c. c ≤ greatest_character)
