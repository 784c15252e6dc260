-- The answers of `==` at a word.
use Rattle.std.proofs.Common.{◌≡◌, ℕ, Bool, false, List, sym, ◌∙◌}
use Rattle.std.specs.Prelude.{bytes_eq}
use Rattle.eo_base.proofs.Tests.{bytes_eq-flip}

-- the word is another than the one that it was compared with
pub differs : (word literal : List ℕ) (r : Bool) → r ≡ bytes_eq word literal → r ≡ false → bytes_eq literal word ≡ false
differs word literal r e t = bytes_eq-flip literal word ∙ sym e ∙ t
