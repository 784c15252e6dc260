-- Texts one after the other in one list of bytes.
use Rattle.std.specs.Prelude.{◌≡◌, ℕ, ◌≤◌, List, [], ◌∷◌}
use Rattle.std.specs.List.{slice_range}

-- the texts that end there, of which the first begins at the start
unfoldable pub texts_from : (start : ℕ) → (bytes : List ℕ) → (ends : List ℕ) → List (List ℕ)
texts_from start bytes [] = []
texts_from start bytes (end ∷ ends) = slice_range bytes start end ∷ texts_from end bytes ends

-- no text ends before it begins, and the last one ends there
unfoldable pub AreEnds : (start : ℕ) → (ends : List ℕ) → (last : ℕ) → Type 0
AreEnds start [] last = start ≡ last
AreEnds start (end ∷ ends) last = (start ≤ end) × AreEnds end ends last

-- where the last of them ends, at the start where there are none
unfoldable pub last_end : (start : ℕ) → (ends : List ℕ) → ℕ
last_end start [] = start
last_end start (end ∷ ends) = last_end end ends
