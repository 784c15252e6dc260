-- The numbers of lines, as they are kept for all members.
use Rattle.std.specs.Prelude.{ℕ, zero, suc, Bool, true, false, List, [], ◌∷◌}
use Rattle.eo_sig.specs.Signature.{Signature, Macro}
use Rattle.eo_term.specs.Tree.{Tree}
use Rattle.eo_show.specs.Lines.{Line, line_name, next_free}

module _ (S : Signature) (macros : List Macro) where
  -- a number for each that wants a line, from k on, and 0 for the others
  abbrev pub numbers_from : ℕ → List Bool → List ℕ
  numbers_from k [] = []
  numbers_from k (true ∷ wants) = next_free S macros k ∷ numbers_from (suc (next_free S macros k)) wants
  numbers_from k (false ∷ wants) = 0 ∷ numbers_from k wants

-- the lines of the trees that have a number
abbrev pub numbered : List Tree → List ℕ → List Line
numbered (u ∷ us) (zero ∷ numbers) = numbered us numbers
numbered (u ∷ us) (suc k ∷ numbers) = record { name = line_name (suc k); tree = u } ∷ numbered us numbers
numbered us numbers = []
