-- The name of each line is free after the lines before it.
use Rattle.std.specs.Prelude.{ℕ, List, [], ◌∷◌, ◌++◌, Option}
use Rattle.std.proofs.Common.{◌∙◌}
use Rattle.eo_base.proofs.Tests.{bytes_eq-flip}
use Rattle.eo_term.specs.Tree.{Tree}
use Rattle.eo_sig.specs.Signature.{Signature, Macro}
use Rattle.eo_session.proofs.Labels.{free_macro}
use Rattle.eo_session.specs.State.{State}
use Rattle.eo_show.specs.Lines.{Line}
use Rattle.eo_show.specs.Written.{AreOther, HaveNewNames}
use Rattle.eo_roundtrip.specs.Shown.{HaveNames}
use Rattle.eo_roundtrip.proofs.Steps.{macro_of}
use Rattle.eo_roundtrip.proofs.Process.{AreFree}

-- names that are free and none of which is this one are free after a macro of this name
still-new : (S : Signature) (macros : List Macro) (name : List ℕ) (m : Tree) (lines : List Line) → AreOther name lines → HaveNewNames S macros lines → HaveNewNames S (macros ++ macro_of name m ∷ []) lines
still-new S macros name m [] o h = tt
still-new S macros name m (l ∷ lines) o h = (free_macro S macros (macro_of name m) l.name h.0 (bytes_eq-flip l.name name ∙ o.0), h.1, still-new S macros name m lines o.1 h.2)

module _ (start : State) (names : HaveNames start.signature) (N : Tree → Option (List ℕ)) where
  pub are-free : (macros : List Macro) (lines : List Line) → HaveNewNames start.signature macros lines → AreFree start names N macros lines
  are-free macros [] h = tt
  are-free macros (l ∷ lines) h = (h.0, λ m. are-free (macros ++ macro_of l.name m ∷ []) lines (still-new start.signature macros l.name m lines h.1 h.2))
