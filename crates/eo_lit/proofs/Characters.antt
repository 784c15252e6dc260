-- The characters of a string literal, one after another.
use Rattle.std.specs.Prelude.{◌≡◌, ℕ, zero, suc, List, [], ◌∷◌, ◌++◌, length, drop, Option, Some, None, option_map, refl}
use Rattle.std.proofs.Common.{sym, ◌∙◌, ap, arith}
use Rattle.std.proofs.lemmas.List.{append_assoc, append-nil}
use Rattle.eo_lit.specs.Literals.{spelled, characters, character_at}

-- bytes that are passed over
pub characters-skip : (skip : ℕ) (bytes : List ℕ) → characters skip bytes ≡ characters 0 (drop skip bytes)
characters-skip zero bytes = refl
characters-skip (suc skip) [] = refl
characters-skip (suc skip) (b ∷ bytes) = characters-skip skip bytes

-- a character and what comes after it
pub characters-first : (b : ℕ) (bytes : List ℕ) (c more : ℕ) → character_at b bytes ≡ Some (spelled c more)
    → characters 0 (b ∷ bytes) ≡ option_map (λ (cs : List ℕ). c ∷ cs) (characters 0 (drop more bytes))
characters-first b bytes c more is = rw (is, characters-skip more bytes) refl

-- the same after other characters
pub characters-next : (front : List ℕ) (b : ℕ) (bytes : List ℕ) (c more : ℕ) → character_at b bytes ≡ Some (spelled c more)
    → option_map (λ (cs : List ℕ). front ++ cs) (characters 0 (b ∷ bytes)) ≡ option_map (λ (cs : List ℕ). (front ++ c ∷ []) ++ cs) (characters 0 (drop more bytes))
characters-next front b bytes c more is =
    ap (option_map (λ (cs : List ℕ). front ++ cs)) (characters-first b bytes c more is) ∙ behind (characters 0 (drop more bytes))
  where
    behind : (o : Option (List ℕ)) → option_map (λ (cs : List ℕ). front ++ cs) (option_map (λ (cs : List ℕ). c ∷ cs) o) ≡ option_map (λ (cs : List ℕ). (front ++ c ∷ []) ++ cs) o
    behind None = refl
    behind (Some cs) = ap (λ (ds : List ℕ). Some ds) (sym (append_assoc front (c ∷ []) cs))

pub characters-none : (front : List ℕ) (b : ℕ) (bytes : List ℕ) → character_at b bytes ≡ None
    → option_map (λ (cs : List ℕ). front ++ cs) (characters 0 (b ∷ bytes)) ≡ None
characters-none front b bytes is = rw is refl

-- no byte is left
pub characters-end : (front rest : List ℕ) (whole : Option (List ℕ)) → length rest ≡ 0 → option_map (λ (cs : List ℕ). front ++ cs) (characters 0 rest) ≡ whole → whole ≡ Some front
characters-end front [] whole none is = sym is ∙ ap (λ (ds : List ℕ). Some ds) (append-nil front)
characters-end front (b ∷ rest) whole none is = absurd (omega arith)
