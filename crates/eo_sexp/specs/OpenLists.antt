-- The reading of a list that is open, from its open lists alone: what an incremental reader keeps.
use Rattle.std.specs.Prelude.{ℕ, suc, Bool, List, [], ◌∷◌, ◌++◌}
use Rattle.eo_base.specs.Limits.{Limits}
use Rattle.eo_sexp.specs.Sexp.{Sexp, Listed, Sexps, Next}
use Rattle.eo_sexp.specs.Lexicon.{Input, pass}
use Rattle.eo_sexp.specs.Commands.{Reading, Whole, ◌>>=◌, children, lists}

-- an open list: the byte of its `(`, its children so far, and how many more it may have
pub record Frame : Type 0 where
  pub at : ℕ
  pub done : List Sexp
  pub more : ℕ

unfoldable pub attach : List Sexp → Sexps → Sexps
attach [] ss = ss
attach (s ∷ done) ss = Next s (attach done ss)

-- the list is closed after its other children
unfoldable pub closes : Frame → Sexps → Input → Reading Sexp
closes f others rest = Whole (Listed (attach f.done others) (record { from = f.at; to = rest.at })) rest

unfoldable pub with_child : Frame → Sexp → Frame
with_child f s = record { at = f.at; done = f.done ++ s ∷ []; more = f.more }

module _ (limits : Limits) where
  -- A list is whole, inside of these, of which the innermost comes first. `deeper` lists may lie inside one another in the list that is whole.
  unfoldable pub after_list : (deeper : ℕ) → List Frame → Sexp → Input → Reading Sexp
  after_list deeper [] s rest = Whole s rest
  after_list deeper (g ∷ frames) s rest = (children limits (lists limits (suc deeper)) g.more rest >>= closes (with_child g s)) >>= after_list (suc deeper) frames

  -- the reading of the command from t on, where t is in the list f inside of these
  unfoldable pub resume : (deeper : ℕ) → Frame → List Frame → Input → Reading Sexp
  resume deeper f frames t = (children limits (lists limits deeper) f.more t >>= closes f) >>= after_list deeper frames

  -- the same where t may be inside a comment
  unfoldable pub resume_in : (deeper : ℕ) → Frame → List Frame → (comment : Bool) → ℕ → List ℕ → Reading Sexp
  resume_in deeper f frames comment at bytes = resume deeper f frames (pass comment at bytes).rest
