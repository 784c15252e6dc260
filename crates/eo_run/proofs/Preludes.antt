-- Bytes that are run as those of a file, without one that is open.
use Rattle.std.proofs.Common.{◌≡◌, refl, ℕ, ◌-◌, ◌≤◌, ◌<◌, Bool, false, List, [], ◌∷◌, length, take, drop, sym, ap, subst, ◌∙◌, arith, append-nil}
use Rattle.std.specs.Prelude.{Result, Ok, Err, Option, Some, None}
use Rattle.eo_base.specs.declared.Fault.{Fault}
use Rattle.eo_base.specs.declared.FaultName.TheVariants.{FileLong}
use Rattle.eo_base.specs.Limits.{limits}
use Rattle.eo_io.specs.Library.{Files, Rest, ReadsBytes}
use Rattle.eo_io.specs.Paths.{with_path}
use Rattle.eo_sexp.specs.Collecting.{Collecting, new_collector, here_of, IsLive, HasRoom}
use Rattle.eo_sexp.specs.Cutting.{ReadsInPieces, IsWaiting}
use Rattle.eo_sexp.specs.Answering.{AnswersAlone}
use Rattle.eo_sexp.specs.Spot.{Spot}
use Rattle.eo_session.specs.Notes as notes
use Rattle.eo_session.specs.Numbered.{origin_of}
use Rattle.eo_session.specs.Origin as origin
use Rattle.eo_run.specs.Answer.{Denotes}
use Rattle.eo_run.specs.Judging.{RunsPart}
use Rattle.eo_run.specs.Opening.{opener_of, run_bytes, Told, StillSees, IsFailing, IsTaken, IsLeft, IsRead, TakesEnd, RunsBytes}
use Rattle.eo_run.specs.Progress.{Point, progress_at, SeesAt}
use Rattle.eo_run.specs.Reading.{behind}
use Rattle.eo_run.specs.Run.{refusal_at, commands_of, run_commands, prelude_path, run_prelude, run_file}
use Rattle.eo_run.specs.Seen.{Seen}
use Rattle.eo_run.specs.declared.Verdict.{Verdict}
use Rattle.eo_run.specs.declared.Verdict.TheVariants as answer
use Rattle.eo_run.specs.declared.opening.Source.{Source}
use Rattle.eo_run.proofs.Pieces.{file_limit, take-all, reads-nothing, stops-weaker, stops-open, left-open, long-open, ends-file, first-here}

-- ---- a new collector

module _ (wrapped : Bool) (c : Collecting) (e : c ≡ new_collector wrapped) where
  pub new-live : IsLive c
  new-live = subst IsLive (sym e) tt

  pub new-waiting : AnswersAlone limits → IsWaiting limits c
  new-waiting alone = subst (IsWaiting limits) (sym e) (alone.begins wrapped)

  pub new-room : (piece : List ℕ) → length piece ≤ 1099511627776 → HasRoom c piece
  new-room piece h = omega (arith, h, ap (λ (k : Collecting). (here_of k).offset) e, first-here wrapped)

-- ---- the bytes

-- n bytes are all that there are
all-read : (bytes : List ℕ) → ReadsBytes (length bytes) (Some bytes ∷ []) (Some (drop (length bytes) bytes) ∷ []) bytes
all-read bytes = (omega arith, refl, omega arith, (empty bytes, λ e. ap length e), refl)
  where
    empty : (xs : List ℕ) → length xs ≡ 0 → xs ≡ []
    empty [] e = refl
    empty (x ∷ xs) e = absurd (omega (arith, e))

module _ {O : Type 0} (tells : O → List notes.Seen → Type 0) (law : ReadsInPieces limits) (alone : AnswersAlone limits) (told : Option Files) (s : Source) (bytes : List ℕ) where
  abbrev before : List Rest
  before = Some bytes ∷ []

  -- the run of the bytes, as a part of a job
  abbrev Part : (r : Result (Unit {0}) Verdict) → (old new : Point O) → Type 0
  Part r old new = RunsPart tells told (λ files. run_bytes files s bytes) r old new

  part-ends : (at : Spot) (old new : Point O) → Told told (λ files. RunsBytes tells files s (Ok at) old new bytes) → Part (Ok tt) old new
  part-ends at old new h = λ files k seen sees. let b = h files k seen sees in (b.0, b.1, b.2)

  read : (old : Point O) → IsRead tells told s old old (new_collector s.wrapped) 1099511627776 before before
  read old = reads-nothing tells alone told s old (new_collector s.wrapped) 1099511627776 before (λ e. absurd (cc e)) refl refl

  front : (n : ℕ) (p rest : List ℕ) (others : List Rest) → before ≡ Some rest ∷ others → p ≡ take n bytes → p ≡ take n rest
  front n p rest others e h = let same : bytes ≡ rest = cc e in h ∙ ap (take n) same

  -- ---- a file that is not too long

  module _ (short : length bytes ≤ 1099511627776) (old : Point O) where
    pub whole-stops : (new : Point O) (v : Verdict) → Told told (λ files. IsFailing tells files s old new (behind (new_collector s.wrapped) bytes) v) → Part (Err v) old new
    whole-stops new v h =
        stops-open tells law told s old old new (new_collector s.wrapped) 1099511627776 (length bytes) bytes before before (read old)
        (λ rest others e. front (length bytes) bytes rest others e (sym (take-all (length bytes) bytes (omega arith)))) short v h

    pub whole-leaves : (new : Point O) → IsLeft tells told s old new (new_collector s.wrapped) bytes → Part (Ok tt) old new
    whole-leaves new h =
        part-ends (here_of (new_collector s.wrapped)) old new
        (left-open tells law told s old old new (new_collector s.wrapped) 1099511627776 (length bytes) bytes before before (read old)
        (λ rest others e. front (length bytes) bytes rest others e (sym (take-all (length bytes) bytes (omega arith)))) short h (here_of (new_collector s.wrapped)))

    module _ (mid new : Point O) (c : Collecting) (taken : IsTaken tells told s old mid (new_collector s.wrapped) c bytes) where
      ends : (r : Result Spot Verdict) → TakesEnd tells told s r mid new c → Told told (λ files. RunsBytes tells files s r old new bytes)
      ends r h =
          ends-file tells law alone told s old mid new c bytes bytes [] (1099511627776 - length bytes) (omega (arith, short, file_limit)) (sym (append-nil bytes)) refl taken r h

      pub whole-ends : (at : Spot) → TakesEnd tells told s (Ok at) mid new c → Part (Ok tt) old new
      whole-ends at h = part-ends at old new (ends (Ok at) h)

      pub whole-refused : (v : Verdict) → TakesEnd tells told s (Err v) mid new c → Part (Err v) old new
      whole-refused v h = ends (Err v) h

  -- ---- a file that is too long

  module _ (long : 1099511627776 < length bytes) (old new : Point O) where
    abbrev counted : List ℕ
    counted = take 1099511627776 bytes

    pub long-stops : (v : Verdict) → Told told (λ files. IsFailing tells files s old new (behind (new_collector s.wrapped) counted) v) → Part (Err v) old new
    long-stops v h =
        stops-open tells law told s old old new (new_collector s.wrapped) 1099511627776 1099511627776 counted before before (read old)
        (λ rest others e. front 1099511627776 counted rest others e refl) (omega arith) v h

    pub long-leaves : IsLeft tells told s old new (new_collector s.wrapped) counted → Part (Ok tt) old new
    long-leaves h =
        part-ends (here_of (new_collector s.wrapped)) old new
        (left-open tells law told s old old new (new_collector s.wrapped) 1099511627776 1099511627776 counted before before (read old)
        (λ rest others e. front 1099511627776 counted rest others e refl) (omega arith) h (here_of (new_collector s.wrapped)))

    pub long-ends : (d : Collecting) (fault : Fault) → IsTaken tells told s old new (new_collector s.wrapped) d counted → Denotes new.paths fault (refusal_at s.path.now (here_of d) FileLong) → Part (Err (answer.Refused fault)) old new
    long-ends d fault taken place =
        long-open tells law told s old old new (new_collector s.wrapped) d 1099511627776 (length bytes) bytes counted before before (Some (drop (length bytes) bytes) ∷ []) fault (read old) (all-read bytes) long refl taken place

-- ---- the prelude

module _ {O : Type 0} (tells : O → List notes.Seen → Type 0) (told : Option Files) (s : Source) (bytes : List ℕ) (path : s.path.now ≡ prelude_path) (kind : origin_of s.from ≡ origin.Signature) (plain : s.wrapped ≡ false) (opens : s.opens ≡ 17) (old mid : Point O)
    (session : mid.run.session.state ≡ old.run.session.state) (included : mid.run.included ≡ with_path old.run.included prelude_path) (opened : mid.run.opened ≡ old.run.opened) (still : StillSees tells old mid) where
  prelude-is : (files : Files) (seen : List Seen) → run_prelude files (Some bytes) (progress_at old seen) ≡ run_bytes files s bytes (progress_at mid seen)
  unfolding run_prelude run_file
  prelude-is files seen = λ j. run_commands (opener_of files (sym opens j)) (sym path j) (sym kind j) (commands_of (sym plain j) bytes)
      (record { state = sym session j; included = sym included j; opened = sym opened j; seen = seen })

  pub prelude-runs : (r : Result (Unit {0}) Verdict) (new : Point O) → RunsPart tells told (λ files. run_bytes files s bytes) r mid new → RunsPart tells told (λ files. run_prelude files (Some bytes)) r old new
  prelude-runs (Ok x) new h = λ files k seen sees. let b = h files k seen (still seen sees) in (b.0, b.1, prelude-is files seen ∙ b.2)
  prelude-runs (Err v) new h = λ files k seen sees.
      stops-weaker (λ stopped. run_bytes files s bytes (progress_at mid seen) ≡ Err stopped) (λ stopped. run_prelude files (Some bytes) (progress_at old seen) ≡ Err stopped) (SeesAt tells new) new.paths v
      (λ stopped e. prelude-is files seen ∙ e) (h files k seen (still seen sees))

-- a prelude that may be absent
module _ {O : Type 0} (tells : O → List notes.Seen → Type 0) (told : Option Files) (prelude : Option (List ℕ)) where
  pub first-none : prelude ≡ None → (w : Point O) (x : Unit {0}) → RunsPart tells told (λ files. run_prelude files prelude) (Ok x) w w
  unfolding run_prelude
  first-none e w x = λ files k seen sees. (seen, sees, ap (λ (o : Option (List ℕ)). run_prelude files o (progress_at w seen)) e)

  pub first-some : (bytes : List ℕ) → prelude ≡ Some bytes → (old new : Point O) (r : Result (Unit {0}) Verdict) → RunsPart tells told (λ files. run_prelude files (Some bytes)) r old new → RunsPart tells told (λ files. run_prelude files prelude) r old new
  first-some bytes e old new r h = subst (λ (o : Option (List ℕ)). RunsPart tells told (λ files. run_prelude files o) r old new) (sym e) h
