-- What a refused call leaves of a table and of types.
use Rattle.std.specs.Prelude.{◌≡◌, ℕ, List, length}
use Rattle.eo_sig.specs.Reading.{Kept}
use Rattle.eo_term.specs.Terms.{Terms}
use Rattle.eo_type.specs.Known.{Fit, Extends}

-- the table is again what it was, and the types that were kept then are kept, and fit it
pub record IsUndone (k : Kept) (old new : Terms) (before left : List (ℕ × ℕ)) : Type 0 where
  pub same : new ≡ old
  pub extends : Extends k old before new left

-- A table and types are cut at a mark. Whatever table that one had grown from since the mark was taken, it is that again, and so are kept whatever types fitted that table and were still kept.
abbrev pub Undoes : Terms → List (ℕ × ℕ) → ℕ × ℕ → Terms → List (ℕ × ℕ) → Type 0
Undoes old known mark new left =
    (k : Kept) (t : Terms) (before : List (ℕ × ℕ)) → Fit k t before → Extends k t before old known → mark ≡ (length t.trees, length t.texts) → IsUndone k t new before left
