-- Texts of characters.
use Rattle.std.specs.Prelude.{◌≡◌, ℕ, ◌≤◌, Bool, true, nat_le, List, length}
use Rattle.std.specs.List.{list_all}
use Rattle.eo_base.specs.Limits.{Limits}
use Rattle.eo_sexp.specs.Sexp.{Sexp, Atom, Listed, Sexps, NoSexp, Next}

-- ---- texts

abbrev pub is_character : ℕ → Bool
is_character c = nat_le c 0x2_ffff

-- characters, and so many at most
abbrev pub IsTextOf : ℕ → List ℕ → Type 0
IsTextOf most text = (list_all is_character text ≡ true) × (length text ≤ most)

module _ (limits : Limits) where
  -- each text of an s-expression
  abbrev mutual
    pub TextsFit : Sexp → Type 0
    TextsFit (Atom k text span) = IsTextOf limits.token text
    TextsFit (Listed ss span) = AllTextsFit ss

    pub AllTextsFit : Sexps → Type 0
    AllTextsFit NoSexp = Unit {0}
    AllTextsFit (Next s rest) = TextsFit s × AllTextsFit rest
