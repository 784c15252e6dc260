-- A refusal at a place of the file that is run is one of a run that stops.
use Rattle.std.proofs.Common.{ℕ, List, sym, subst}
use Rattle.std.specs.Prelude.{Err}
use Rattle.eo_sexp.specs.Spot.{Spot}
use Rattle.eo_session.specs.State.{State, begin_reference}
use Rattle.eo_run.specs.Opening.{IsNumbered, IsStop, FoldsHere, BeginsHere}
use Rattle.eo_run.specs.declared.Verdict.{Verdict}
use Rattle.eo_run.specs.declared.Verdict.TheVariants as answer
use Rattle.eo_run.specs.declared.opening.Source.{Source}
use Rattle.eo_run.proofs.Numbers.{placed-in}

module _ (paths : List (List ℕ)) (s : Source) (at : Spot) (here : IsNumbered paths s) where
  -- a path that is none
  pub unfolded-stop : (name : List ℕ) (v : Verdict) → FoldsHere s at name (Err v) → IsStop paths v
  unfolded-stop name answer.OutOfMemory h = tt
  unfolded-stop name v h = subst (IsStop paths) (sym h.1) (placed-in paths s here)

  -- a reference file that does not begin
  pub unbegun-stop : (v : Verdict) (st new : State) → BeginsHere s at (Err v) (begin_reference st) new → IsStop paths v
  unbegun-stop answer.OutOfMemory st new h = tt
  unbegun-stop v st new h = subst (IsStop paths) (sym h.2) (placed-in paths s here)
