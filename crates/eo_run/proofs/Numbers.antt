-- Places of files by their numbers, and what follows from opening a file.
use Rattle.std.proofs.Common.{◌≡◌, refl, ℕ, suc, Bool, true, false, List, ◌∷◌, Option, Some, None, sym, ap, subst, ◌∙◌}
use Rattle.std.specs.Prelude.{◌≢◌, Result, Ok, Err, is_some, slice_get, if◌then◌else◌, IsSome}
use Rattle.std.proofs.lemmas.Option.{none-some, same_Some}
use Rattle.eo_base.specs.declared.FaultName.{FaultName}
use Rattle.eo_base.specs.declared.FaultName.TheVariants.{FileAbsent, SecondReference}
use Rattle.eo_base.proofs.ChecksLemmas.{err_is_not_ok}
use Rattle.eo_io.specs.Library.{Files, Rest, file_at, Opens, Closes}
use Rattle.eo_io.proofs.PathLemmas.{found}
use Rattle.eo_io.specs.declared.Opened.TheVariants as opened
use Rattle.eo_sexp.specs.Spot.{Spot}
use Rattle.eo_session.specs.State.{State, begin_reference}
use Rattle.eo_session.specs.Notes as notes
use Rattle.eo_run.specs.Run.{Stopped, refusal_at, open_file}
use Rattle.eo_run.specs.Progress.{Point, progress_at}
use Rattle.eo_session.specs.Numbered.{origin_of, number_of}
use Rattle.eo_run.specs.Answer.{Denotes}
use Rattle.eo_run.specs.Opening as opening
use Rattle.eo_run.specs.Opening.{opener_of, run_bytes, IsNumbered, as_found, RunsOpen, RefusesFile, RunsFile, place_in}
use Rattle.eo_run.specs.Reading.{StaysOpen}
use Rattle.eo_session.specs.declared.Next.TheVariants as next
use Rattle.eo_run.specs.declared.Verdict.{Verdict}
use Rattle.eo_run.specs.declared.opening.Source.{Source}
use Rattle.eo_run.proofs.Pieces.{stops-weaker}

-- ---- numbers of paths

pub denotes-here : (paths : List (List ℕ)) (s : Source) (name : FaultName) (at : Spot) → IsNumbered paths s → Denotes paths (record { name = name; place = place_in s at }) (refusal_at s.path.now at name)
denotes-here paths s name at h = record { name = refl; file = found paths s.path.now (number_of s.from) h; line = refl; offset = refl }

-- the file of a refusal is one of the paths
pub placed-in : (paths : List (List ℕ)) (s : Source) → IsNumbered paths s → IsSome (slice_get paths (number_of s.from))
placed-in paths s h = ap is_some (found paths s.path.now (number_of s.from) h)

-- ---- what follows from opening a file

module _ {O : Type 0} (tells : O → List notes.Seen → Type 0) where
  pub ready-runs : (told : Option Files) (s : Source) (r : Result Spot Verdict) (old new : Point O) (before mid : List Rest) → Opens opened.Ready told s.path.now before mid → RunsOpen tells told s r old new mid → RunsFile tells told s (as_found r) old new
  ready-runs None s (Ok at) old new before mid o h = λ files k. absurd (none-some files k)
  ready-runs None s (Err v) old new before mid o h = λ files k. absurd (none-some files k)
  ready-runs (Some fs) s (Ok at) old new before mid o h = λ files k.
      (o.0, subst (λ (f : Files). file_at f s.path.now ≡ Some o.0) (same_Some fs files k) o.1, (subst (λ (m : List Rest). RunsOpen tells (Some fs) s (Ok at) old new m) o.2 h) files k)
  ready-runs (Some fs) s (Err v) old new before mid o h = λ files k seen sees.
      stops-weaker (λ (stopped : Stopped). run_bytes files s o.0 (progress_at old seen) ≡ Err stopped) (RefusesFile files s (progress_at old seen)) _ new.paths v
      (λ stopped e. (o.0, subst (λ (f : Files). file_at f s.path.now ≡ Some o.0) (same_Some fs files k) o.1, e))
      ((subst (λ (m : List Rest). RunsOpen tells (Some fs) s (Err v) old new m) o.2 h) files k seen sees)

-- a file that was opened, and is closed again
opened-on : (told : Option Files) (path : List ℕ) (before mid : List Rest) → Opens opened.Ready told path before mid → (rest : Rest) × (mid ≡ rest ∷ before)
opened-on None path before mid o = o
opened-on (Some fs) path before mid o = (Some o.0, o.2)

pub closes-open : (told : Option Files) (path : List ℕ) (before mid after last : List Rest) → Opens opened.Ready told path before mid → StaysOpen mid after → Closes after last → last ≡ before
closes-open told path before mid after last o stays closes =
    let on = opened-on told path before mid o in
    let left : StaysOpen (on.0 ∷ before) after = subst (λ (m : List Rest). StaysOpen m after) on.1 stays in
    let both : closes.0 ∷ last ≡ left.0 ∷ before = sym closes.1 ∙ left.1 in
    cc

-- ---- what asks for nothing

module _ {O : Type 0} (tells : O → List notes.Seen → Type 0) (told : Option Files) (s : Source) (at : Spot) (w : Point O) (x : Unit {0}) (left : ℕ) (e : s.opens ≡ suc left) where
  pub opens-done : opening.Opens tells told s at next.Done (Ok x) w w
  unfolding open_file
  opens-done = λ files k seen sees. (seen, sees, ap (λ n. opener_of files n s.path.now (origin_of s.from) at next.Done (progress_at w seen)) e)

  pub opens-exit : opening.Opens tells told s at next.Exit (Ok x) w w
  unfolding open_file
  opens-exit = λ files k seen sees. (seen, sees, ap (λ n. opener_of files n s.path.now (origin_of s.from) at next.Exit (progress_at w seen)) e)

-- ---- a reference file that may not begin

-- its fault is none of an absent file
pub begin-present : (st : State) (name : FaultName) → begin_reference st ≡ Err name → name ≢ FileAbsent
unfolding begin_reference
begin-present st name e a = by st.has_reference e
  where
    by : (b : Bool) → (if b then Err SecondReference else Ok (record st { has_reference = true })) ≡ Err name → ⊥
    by true h = absurd (let wrong = h ∙ ap (λ n. Err n) a in cc wrong)
    by false h = err_is_not_ok name (record st { has_reference = true }) (sym h)
