-- A run of a file that goes on after what its commands ask for.
use Rattle.std.proofs.Common.{◌≡◌, refl, ℕ, zero, suc, ◌+◌, ◌-◌, ◌≤◌, Bool, true, false, List, [], ◌∷◌, ◌++◌, length, map, ap, sym, subst, ◌∙◌, arith, append_assoc}
use Rattle.std.specs.Prelude.{◌≢◌, ◌^◌, min, Result, Ok, Err, Option, Some, None, IfErr, bytes_eq}
use Rattle.std.proofs.Math.Nat.{min-le_left, min-le_right, le-min}
use Rattle.std.specs.List.{list_any}
use Rattle.eo_base.specs.Causes.{Rose}
use Rattle.eo_base.specs.declared.Fault.{Fault}
use Rattle.eo_base.specs.declared.FaultName.{FaultName}
use Rattle.eo_base.specs.declared.FaultName.TheVariants.{BadPath, IncludeDepth, FileAbsent}
use Rattle.eo_io.specs.Library.{Files, Rest, file_at}
use Rattle.eo_io.specs.Paths.{fold_path, Extends}
use Rattle.eo_sexp.specs.Collecting.{Collecting}
use Rattle.eo_sexp.specs.Spot.{Spot}
use Rattle.eo_sexp.specs.Texts.{Ends}
use Rattle.eo_sexp.specs.Answering.{end_of}
use Rattle.eo_session.specs.State.{State, begin_reference}
use Rattle.eo_io.specs.Paths.{with_path}
use Rattle.eo_session.specs.Notes as notes
use Rattle.eo_run.specs.Run.{Progress, is_exit, refusal_at, stopped_at, commands_of, open_nothing, run_commands, with_included, with_opened}
use Rattle.eo_run.specs.Progress.{Point, progress_at, SeesAt}
use Rattle.eo_run.specs.Reading.{Continuation, Asks, LeadsOn, AsksFor, IsRefused, LibraryStays, LibraryReads, StaysOpen}
use Rattle.eo_run.specs.Seen.{Seen}
use Rattle.eo_run.specs.Watching.{seen_as, passed, Sees, IsShown}
use Rattle.eo_run.specs.Opening as opening
use Rattle.eo_run.specs.Opening.{IsNumbered, FoldsHere, BeginsHere, opener_of, run_bytes, LeadsIn, FinishesIn, FailsIn, Told, StillSees, Opens, opens_in, GoesOn, ComesToEnd, IsFailing, IfWhole, IsTaken, IsLeft, TakesPiece, TakesEnd, RunsOpen, RefusesFile, RunsFile, Keeps, as_found}
use Rattle.eo_session.specs.Numbered.{origin_of, number_of}
use Rattle.eo_run.specs.Answer.{Denotes, AnswerHasCause, FileHasCause}
use Rattle.eo_session.specs.Origin as origin
use Rattle.eo_session.specs.declared.Next.{Next}
use Rattle.eo_session.specs.declared.Next.TheVariants as next
use Rattle.eo_run.specs.declared.Verdict.{Verdict}
use Rattle.eo_run.specs.declared.Verdict.TheVariants as answer
use Rattle.eo_run.specs.declared.opening.Run.{Run}
use Rattle.eo_run.specs.declared.opening.Source.{Source}
use Rattle.eo_run.specs.declared.reading.Stop.{Stop}
use Rattle.eo_run.specs.declared.reading.Stop.TheVariants as stop
use Rattle.eo_run.proofs.Running.{leads-trans, leads-fails, leads-asks, asks-leads, asks-finishes, asks-fails}
use Rattle.eo_run.proofs.Opened.{nothing-is, opener-is, include-bad, include-again, include-deep, include-absent, include-runs, refer-bad, refer-second, refer-absent, refer-runs}
use Rattle.eo_run.proofs.Pieces.{stops-weaker}
use Rattle.eo_run.proofs.Numbers.{denotes-here, placed-in, begin-present}
use Rattle.eo_run.proofs.Watched.{numbered-later, sees-more}

-- ---- where the same files are known later

pub told-later : (told later : Option Files) (P : Files → Type 0) → later ≡ told → Told later P → Told told P
told-later told later P same h = λ files k. h files (same ∙ k)

module _ {O : Type 0} (tells : O → List notes.Seen → Type 0) (told later : Option Files) (same : later ≡ told) (s : Source) where
  pub opens-later : (at : Spot) (what : Next) (r : Result (Unit {0}) Verdict) (old new : Point O) → Opens tells later s at what r old new → Opens tells told s at what r old new
  opens-later at what r old new h = told-later told later _ same h

  pub taken-later : (old new : Point O) (c d : Collecting) (piece : List ℕ) → IsTaken tells later s old new c d piece → IsTaken tells told s old new c d piece
  taken-later old new c d piece h = record { leads = told-later told later _ same h.leads; live = h.live; waiting = h.waiting; here = h.here }

  pub left-later : (old new : Point O) (c : Collecting) (piece : List ℕ) → IsLeft tells later s old new c piece → IsLeft tells told s old new c piece
  left-later old new c piece h = record { finishes = told-later told later _ same h.finishes; reference = h.reference }

  pub takes-later : (r : Result Bool Verdict) (old new : Point O) (c d : Collecting) (piece : List ℕ) → TakesPiece tells later s r old new c d piece → TakesPiece tells told s r old new c d piece
  takes-later (Ok true) old new c d piece h = taken-later old new c d piece h
  takes-later (Ok false) old new c d piece h = left-later old new c piece h
  takes-later (Err v) old new c d piece h = told-later told later _ same h

  pub open-later : (r : Result Spot Verdict) (old new : Point O) (mid : List Rest) → RunsOpen tells later s r old new mid → RunsOpen tells told s r old new mid
  open-later r old new [] h = absurd h
  open-later r old new (None ∷ others) h = tt
  open-later r old new (Some bytes ∷ others) h = told-later told later _ same h

  pub ends-later : (r : Result Spot Verdict) (old new : Point O) (c : Collecting) → TakesEnd tells later s r old new c → TakesEnd tells told s r old new c
  ends-later (Ok at) old new c h = told-later told later _ same h
  ends-later (Err v) old new c h = told-later told later _ same h

-- ---- calls in a row

pub extends-trans : (a b c : List (List ℕ)) → Extends a b → Extends b c → Extends a c
extends-trans a b c h k = (h.0 ++ k.0, k.1 ∙ ap (λ ps. ps ++ k.0) h.1 ∙ append_assoc a h.0 k.0)

module _ {S F : Type 0} (told : S → Option F) (open_files : S → List Rest) (faults : S → ℕ) (a b c : S) where
  pub stays-trans : LibraryStays told open_files faults a b → LibraryStays told open_files faults b c → LibraryStays told open_files faults a c
  stays-trans h k = record { same = k.same ∙ h.same; closed = k.closed ∙ h.closed; later = omega (arith, h.later, k.later) }

  -- a call after a read
  pub reads-trans : told b ≡ told a → StaysOpen (open_files a) (open_files b) → faults a ≤ faults b → LibraryStays told open_files faults b c → LibraryReads told open_files faults a c
  reads-trans same stays later k = record { same = k.same ∙ same; stays = subst (StaysOpen (open_files a)) (sym k.closed) stays; later = omega (arith, later, k.later) }

pub stays-length : (before after : List Rest) → StaysOpen before after → length after ≡ length before
stays-length [] after h = absurd h
stays-length (rest ∷ others) after h = ap length h.1

-- ---- after a command, or the commands of a piece

-- A run leads on from its first point to this one, from which the commands of a file of this number are read.
module _ {O : Type 0} (tells : O → List notes.Seen → Type 0) (told : Option Files) (s : Source) (old mid now : Point O) (numbered : IsNumbered mid.paths s) (table : now.paths ≡ mid.paths) (included : now.run.included ≡ mid.run.included) (opened : now.run.opened ≡ mid.run.opened)
    (r t : Continuation) (before : Told told (λ files. GoesOn tells files s old mid r t)) where
  abbrev from : origin.Origin
  from = origin_of s.from

  abbrev state_before : State
  state_before = mid.run.session.state

  abbrev state_now : State
  state_now = now.run.session.state

  abbrev Shown : List notes.Seen → Type 0
  Shown = IsShown tells mid.observer now.observer (number_of s.from)

  -- what is accepted after it, and where the run is then
  abbrev all_seen : List Seen → List notes.Seen → List Seen
  all_seen seen ms = seen ++ map (seen_as s.path.now) ms

  sees-now : (seen : List Seen) (ms : List notes.Seen) → Shown ms → SeesAt tells mid seen → SeesAt tells now (all_seen seen ms)
  sees-now seen ms shown sees =
      subst (λ (ps : List (List ℕ)). Sees tells now.observer ps (all_seen seen ms)) (sym table)
      (sees-more tells mid.observer now.observer mid.paths s.path.now (number_of s.from) seen ms numbered shown sees)

  is-now : (seen : List Seen) (ms : List notes.Seen) → passed (progress_at mid seen) s.path.now state_now ms ≡ progress_at now (all_seen seen ms)
  is-now seen ms = (λ i. record { state = state_now; included = sym included i; opened = sym opened i; seen = all_seen seen ms })

  -- where nothing is asked for
  pub goes-on : (u : Continuation) (ms : List notes.Seen) → Shown ms → LeadsOn from state_before t ms state_now u → Told told (λ files. GoesOn tells files s old now r u)
  goes-on u ms shown h = λ files k seen sees.
      let a = before files k seen sees in
      let p = progress_at mid a.0 in (
        all_seen a.0 ms,
        sees-now a.0 ms shown a.1,
        leads-trans (opener_of files s.opens) s.path.now from (progress_at old seen) p (progress_at now (all_seen a.0 ms)) r t u a.2
            (subst (λ (q : Progress). LeadsIn files s p q t u) (is-now a.0 ms) (h (opener_of files s.opens) (opener-is files s.opens) s.path.now p)),
      )

  stops-here : (name : FaultName) (at : Spot) (fault : Fault) → IsRefused from Shown state_before state_now t name at → Denotes now.paths fault (refusal_at s.path.now at name) → Told told (λ files. IsFailing tells files s old now r (answer.Refused fault))
  stops-here name at fault h d = λ files k seen sees.
      let a = before files k seen sees in
      let p = progress_at mid a.0 in
      let stopped = stopped_at (passed p s.path.now state_before h.passes) s.path.now at name in (
        stopped,
        leads-fails (opener_of files s.opens) s.path.now from (progress_at old seen) p r t stopped a.2 (h.fails (opener_of files s.opens) (opener-is files s.opens) s.path.now p),
        d,
        sees-now a.0 h.passes h.shown a.1,
      )

  -- the result for what is not checked
  pub stopped-here : (x : Stop) (v : Verdict) → v ≡ opening.stop_verdict x s → IsNumbered now.paths s → ((name : FaultName) (at : Spot) → x ≡ stop.Fault name at → IsRefused from Shown state_before state_now t name at) → Told told (λ files. IsFailing tells files s old now r v)
  stopped-here (stop.Fault name at) v e n h =
      subst (λ (w : Verdict). Told told (λ files. IsFailing tells files s old now r w)) (sym e)
      (stops-here name at (record { name = name; place = opening.place_in s at }) (h name at refl) (denotes-here now.paths s name at n))
  stopped-here stop.ReadFault v e n h = subst (λ (w : Verdict). Told told (λ files. IsFailing tells files s old now r w)) (sym e) (λ files k seen sees. tt)
  stopped-here stop.Memory v e n h = subst (λ (w : Verdict). Told told (λ files. IsFailing tells files s old now r w)) (sym e) (λ files k seen sees. tt)

  -- what is asked for is done, or stops
  module _ (u : Continuation) (what : Next) (at : Spot) (ms : List notes.Seen) (shown : Shown ms) (h : AsksFor from state_before t ms state_now u what at) where
    before-asks : (files : Files) (seen all : List Seen) → LeadsIn files s (progress_at old seen) (progress_at mid all) r t → Asks (opener_of files s.opens) s.path.now from (progress_at old seen) (progress_at now (all_seen all ms)) r u what at
    before-asks files seen all leads =
        let p = progress_at mid all in
        leads-asks (opener_of files s.opens) s.path.now from (progress_at old seen) p (progress_at now (all_seen all ms)) r t u what at leads
        (subst (λ (q : Progress). Asks (opener_of files s.opens) s.path.now from p q t u what at) (is-now all ms) (h (opener_of files s.opens) (opener-is files s.opens) s.path.now p))

    module _ (last : Point O) (x : Unit {0}) (o : Opens tells told s at what (Ok x) now last) where
      pub goes-behind : is_exit what ≡ false → Told told (λ files. GoesOn tells files s old last r u)
      goes-behind e = λ files k seen sees.
          let a = before files k seen sees in
          let b = o files k (all_seen a.0 ms) (sees-now a.0 ms shown a.1) in
          (b.0, b.1, asks-leads (opener_of files s.opens) s.path.now from (progress_at old seen) (progress_at now (all_seen a.0 ms)) r u what at (before-asks files seen a.0 a.2) (progress_at last b.0) b.2 e)

      -- and the file ends
      pub leaves-behind : is_exit what ≡ true → Told told (λ files. ComesToEnd tells files s old last r)
      leaves-behind e = λ files k seen sees.
          let a = before files k seen sees in
          let b = o files k (all_seen a.0 ms) (sees-now a.0 ms shown a.1) in
          (b.0, b.1, asks-finishes (opener_of files s.opens) s.path.now from (progress_at old seen) (progress_at now (all_seen a.0 ms)) r u what at (before-asks files seen a.0 a.2) (progress_at last b.0) b.2 e)

    -- only a reference file does
    pub leaves-reference : is_exit what ≡ true → from ≡ origin.Reference
    leaves-reference e = (h open_nothing nothing-is s.path.now (progress_at mid [])).leaves e

    pub stops-behind : (last : Point O) (v : Verdict) → Opens tells told s at what (Err v) now last → Told told (λ files. IsFailing tells files s old last r v)
    stops-behind last v o = λ files k seen sees.
        let a = before files k seen sees in
        let p = progress_at now (all_seen a.0 ms) in
        stops-weaker (λ stopped. opens_in files s at what p ≡ Err stopped) (FailsIn files s (progress_at old seen) r) (SeesAt tells last) last.paths v
        (λ stopped e. asks-fails (opener_of files s.opens) s.path.now from (progress_at old seen) p r u what at (before-asks files seen a.0 a.2) stopped e) (o files k (all_seen a.0 ms) (sees-now a.0 ms shown a.1))

  -- the file ends, as it is read
  pub finishes-here : (end : Spot) (ms : List notes.Seen) → Shown ms → LeadsOn from state_before t ms state_now (λ closes more. Ends end)
      → Told told (λ files. (seen : List Seen) → SeesAt tells old seen → (all : List Seen) × SeesAt tells now all × FinishesIn files s (progress_at old seen) (progress_at now all) r × IfWhole from (end_of (r true []) ≡ Some end))
  unfolding run_commands
  finishes-here end ms shown h = λ files k seen sees.
      let b = goes-on (λ closes more. Ends end) ms shown h files k seen sees in
      (b.0, b.1, record { runs = λ closes more. b.2.runs closes more }, λ other. b.2.ends true [])

-- ---- results for a file that a command names

module _ {O : Type 0} (tells : O → List notes.Seen → Type 0) (told : Option Files) (s : Source) (left : ℕ) (opens : s.opens ≡ suc left) (at : Spot) (name : List ℕ) (w : Point O) where
  by_number : (files : Files) (what : Next) (p : Progress) → opens_in files s at what p ≡ opener_of files (suc left) s.path.now (origin_of s.from) at what p
  by_number files what p = ap (λ n. opener_of files n s.path.now (origin_of s.from) at what p) opens

  -- a fault at the command
  refused_at : (what : Next) (fault : FaultName) (f : Fault) (last : Point O) → StillSees tells w last
      → ((files : Files) → told ≡ Some files → (seen : List Seen) → opener_of files (suc left) s.path.now (origin_of s.from) at what (progress_at w seen) ≡ Err (stopped_at (progress_at w seen) s.path.now at fault))
      → Denotes last.paths f (refusal_at s.path.now at fault) → Opens tells told s at what (Err (answer.Refused f)) w last
  refused_at what fault f last still e d = λ files k seen sees.
      (stopped_at (progress_at w seen) s.path.now at fault, by_number files what (progress_at w seen) ∙ e files k seen, d, still seen sees)

  module _ (f : Fault) (last : Point O) (still : StillSees tells w last) where
    pub includes-bad : fold_path s.path.now name ≡ None → Denotes last.paths f (refusal_at s.path.now at BadPath) → Opens tells told s at (next.Include name) (Err (answer.Refused f)) w last
    includes-bad e d = refused_at (next.Include name) BadPath f last still (λ files k seen. include-bad files left s.path.now (origin_of s.from) at name (progress_at w seen) e) d

    pub refers-bad : fold_path s.path.now name ≡ None → Denotes last.paths f (refusal_at s.path.now at BadPath) → Opens tells told s at (next.Reference name) (Err (answer.Refused f)) w last
    refers-bad e d = refused_at (next.Reference name) BadPath f last still (λ files k seen. refer-bad files left s.path.now (origin_of s.from) at name (progress_at w seen) e) d

  module _ (file : List ℕ) (folds : fold_path s.path.now name ≡ Some file) where
    -- ---- included

    pub includes-again : (x : Unit {0}) → list_any (bytes_eq file) w.run.included ≡ true → Opens tells told s at (next.Include name) (Ok x) w w
    includes-again x e = λ files k seen sees.
        (seen, sees, by_number files (next.Include name) (progress_at w seen) ∙ include-again files left s.path.now (origin_of s.from) at name (progress_at w seen) file folds e)

    module _ (new : list_any (bytes_eq file) w.run.included ≡ false) where
      pub includes-deep : (f : Fault) (last : Point O) → StillSees tells w last → left ≡ 0 → Denotes last.paths f (refusal_at s.path.now at IncludeDepth) → Opens tells told s at (next.Include name) (Err (answer.Refused f)) w last
      includes-deep f last still e d =
          refused_at (next.Include name) IncludeDepth f last still (λ files k seen. include-deep files left s.path.now (origin_of s.from) at name (progress_at w seen) file folds new e) d

      -- the file is counted as included and as opened
      module _ (more : ℕ) (room : left ≡ suc more) (i : Source) (path : i.path.now ≡ file) (kind : origin_of i.from ≡ origin_of s.from) (plain : i.wrapped ≡ false) (inner : i.opens ≡ left) (mid : Point O)
          (session : mid.run.session.state ≡ w.run.session.state) (included : mid.run.included ≡ with_path w.run.included file) (opened : mid.run.opened ≡ with_path w.run.opened file) (still : StillSees tells w mid) where
        start : (seen : List Seen) → progress_at mid seen ≡ with_included (progress_at w seen) file
        start seen = λ j. record { state = session j; included = included j; opened = opened j; seen = seen }

        runs-inner : (files : Files) (bytes : List ℕ) (seen : List Seen) → file_at files i.path.now ≡ Some bytes → opens_in files s at (next.Include name) (progress_at w seen) ≡ run_bytes files i bytes (progress_at mid seen)
        runs-inner files bytes seen e =
            by_number files (next.Include name) (progress_at w seen) ∙ include-runs files left s.path.now (origin_of s.from) at name (progress_at w seen) file folds new more room bytes (sym (ap (file_at files) path) ∙ e)
            ∙ (λ j. run_commands (opener_of files (sym inner j)) (sym path j) (sym kind j) (commands_of (sym plain j) bytes) (sym (start seen) j))

        pub includes-ends : (r : Result (Option Spot) Verdict) (last : Point O) → IsNumbered last.paths s → RunsFile tells told i r mid last → Opens tells told s at (next.Include name) (opening.opened_at r s at) w last
        includes-ends (Ok (Some end)) last here h = λ files k seen sees.
            let g = h files k in
            let b = g.2 seen (still seen sees) in
            (b.0, b.1, runs-inner files g.0 seen g.1 ∙ b.2)
        includes-ends (Ok None) last here h = λ files k seen sees.
            let g = h files k in
            let p = progress_at w seen in (
              stopped_at p s.path.now at FileAbsent,
              by_number files (next.Include name) p ∙ include-absent files left s.path.now (origin_of s.from) at name p file folds new more room (sym (ap (file_at files) path) ∙ g.0),
              denotes-here last.paths s FileAbsent at here,
              g.1 seen (still seen sees),
            )
        includes-ends (Err v) last here h = λ files k seen sees.
            stops-weaker (RefusesFile files i (progress_at mid seen)) (λ stopped. opens_in files s at (next.Include name) (progress_at w seen) ≡ Err stopped) (SeesAt tells last) last.paths v
            (λ stopped g. runs-inner files g.0 seen g.1 ∙ g.2) (h files k seen (still seen sees))

    -- ---- a reference file

    pub refers-second : (f : Fault) (last : Point O) (fault : FaultName) → StillSees tells w last → begin_reference w.run.session.state ≡ Err fault → Denotes last.paths f (refusal_at s.path.now at fault) → Opens tells told s at (next.Reference name) (Err (answer.Refused f)) w last
    refers-second f last fault still e d =
        refused_at (next.Reference name) fault f last still (λ files k seen. refer-second files left s.path.now (origin_of s.from) at name (progress_at w seen) file folds fault e) d

    -- it is counted as opened
    module _ (i : Source) (path : i.path.now ≡ file) (kind : origin_of i.from ≡ origin.Reference) (plain : i.wrapped ≡ false) (inner : i.opens ≡ 0) (mid : Point O)
        (begins : begin_reference w.run.session.state ≡ Ok mid.run.session.state) (included : mid.run.included ≡ w.run.included) (opened : mid.run.opened ≡ with_path w.run.opened file) (still : StillSees tells w mid) where
      begun : (seen : List Seen) → progress_at mid seen ≡ record (with_opened (progress_at w seen) file) { state = mid.run.session.state }
      begun seen = λ j. record { state = mid.run.session.state; included = included j; opened = opened j; seen = seen }

      runs-reference : (files : Files) (bytes : List ℕ) (seen : List Seen) → file_at files i.path.now ≡ Some bytes → opens_in files s at (next.Reference name) (progress_at w seen) ≡ run_bytes files i bytes (progress_at mid seen)
      runs-reference files bytes seen e =
          by_number files (next.Reference name) (progress_at w seen) ∙ refer-runs files left s.path.now (origin_of s.from) at name (progress_at w seen) file folds mid.run.session.state begins bytes (sym (ap (file_at files) path) ∙ e)
          ∙ (λ j. run_commands (opener_of files (sym inner j)) (sym path j) (sym kind j) (commands_of (sym plain j) bytes) (sym (begun seen) j))

      pub refers-ends : (r : Result (Option Spot) Verdict) (last : Point O) → IsNumbered last.paths s → RunsFile tells told i r mid last → Opens tells told s at (next.Reference name) (opening.opened_at r s at) w last
      refers-ends (Ok (Some end)) last here h = λ files k seen sees.
          let g = h files k in
          let b = g.2 seen (still seen sees) in
          (b.0, b.1, runs-reference files g.0 seen g.1 ∙ b.2)
      refers-ends (Ok None) last here h = λ files k seen sees.
          let g = h files k in
          let p = progress_at w seen in (
            stopped_at p s.path.now at FileAbsent,
            by_number files (next.Reference name) p ∙ refer-absent files left s.path.now (origin_of s.from) at name p file folds mid.run.session.state begins (sym (ap (file_at files) path) ∙ g.0),
            denotes-here last.paths s FileAbsent at here,
            g.1 seen (still seen sees),
          )
      refers-ends (Err v) last here h = λ files k seen sees.
          stops-weaker (RefusesFile files i (progress_at mid seen)) (λ stopped. opens_in files s at (next.Reference name) (progress_at w seen) ≡ Err stopped) (SeesAt tells last) last.paths v
          (λ stopped g. runs-reference files g.0 seen g.1 ∙ g.2) (h files k seen (still seen sees))

-- ---- results by how the run of a file ends

-- a cause stays one
rose-grows : (a b m n : ℕ) → a ≤ b → m ≤ n → Rose b m → Rose a n
rose-grows a b m n l k h =
    let low : min (a + 1) (2 ^ 64 - 1) ≤ min (b + 1) (2 ^ 64 - 1) = le-min (omega (arith, min-le_left (a + 1) (2 ^ 64 - 1), l)) (min-le_right (a + 1) (2 ^ 64 - 1)) in
    let high : min (b + 1) (2 ^ 64 - 1) ≤ m = h in
    omega (arith, low, high, k)

pub cause-grows : {F : Type 0} (told : Option F) (v : Verdict) (a b m n : ℕ) → a ≤ b → m ≤ n → AnswerHasCause v told b m → AnswerHasCause v told a n
cause-grows told answer.ReadFault a b m n l k h = rose-grows a b m n l k h
cause-grows None (answer.Refused fault) a b m n l k h = λ e. rose-grows a b m n l k (h e)
cause-grows (Some f) (answer.Refused fault) a b m n l k h = tt
cause-grows told answer.Correct a b m n l k h = tt
cause-grows told answer.Incomplete a b m n l k h = tt
cause-grows told (answer.Loaded commands) a b m n l k h = tt
cause-grows told answer.OutOfMemory a b m n l k h = tt

pub found-cause : {F : Type 0} (told later : Option F) → later ≡ told → (r : Result Spot Verdict) (a b m n : ℕ) → a ≤ b → m ≤ n → IfErr r (λ v. AnswerHasCause v later b m) → FileHasCause (as_found r) told a n
found-cause told later same (Ok at) a b m n l k h = tt
found-cause {F} told later same (Err v) a b m n l k h = cause-grows told v a b m n l k (subst (λ (o : Option F). AnswerHasCause v o b m) same h)

pub found-keeps : (r : Result Spot Verdict) (run : Run) (before after : List (List ℕ)) → Keeps r run before after → Keeps (as_found r) run before after
found-keeps (Ok at) run before after k = record { going = k.going; kind = tt; table = k.table }
found-keeps (Err v) run before after k = record { going = tt; kind = k.kind; table = k.table }

pub opened-cause : {F : Type 0} (told : Option F) (r : Result (Option Spot) Verdict) (s : Source) (at : Spot) (b n : ℕ) → FileHasCause r told b n → IfErr (opening.opened_at r s at) (λ v. AnswerHasCause v told b n)
opened-cause told (Ok (Some end)) s at b n h = tt
opened-cause None (Ok None) s at b n h = λ e. h
opened-cause (Some f) (Ok None) s at b n h = tt
opened-cause told (Err v) s at b n h = h

pub opened-keeps : (r : Result (Option Spot) Verdict) (run : Run) (before mid after : List (List ℕ)) (s : Source) (at : Spot) → IsNumbered mid s → Extends before mid → Keeps r run mid after → Keeps (opening.opened_at r s at) run before after
opened-keeps (Ok (Some end)) run before mid after s at here grows k = record { going = k.going; kind = tt; table = extends-trans before mid after grows k.table }
opened-keeps (Ok None) run before mid after s at here grows k =
    record { going = tt; kind = placed-in after s (numbered-later mid after (number_of s.from) s.path.now k.table here); table = extends-trans before mid after grows k.table }
opened-keeps (Err v) run before mid after s at here grows k = record { going = tt; kind = k.kind; table = extends-trans before mid after grows k.table }

-- ---- results for a command at its own place

-- a number that is not zero
pub one-less : (n : ℕ) → n ≢ 0 → n ≡ suc (n - 1)
one-less zero h = absurd (h refl)
one-less (suc n) h = omega arith

module _ {O : Type 0} (tells : O → List notes.Seen → Type 0) (told : Option Files) (s : Source) (left : ℕ) (opens : s.opens ≡ suc left) (at : Spot) (w last : Point O) (still : StillSees tells w last) (here : IsNumbered last.paths s) where
  -- the path is none
  pub include-unfolded : (name : List ℕ) (v : Verdict) → FoldsHere s at name (Err v) → Opens tells told s at (next.Include name) (Err v) w last
  include-unfolded name answer.OutOfMemory h = λ files k seen sees. tt
  include-unfolded name v h =
      subst (λ (x : Verdict). Opens tells told s at (next.Include name) (Err x) w last) (sym h.1)
      (includes-bad tells told s left opens at name w (record { name = BadPath; place = opening.place_in s at }) last still h.0 (denotes-here last.paths s BadPath at here))

  pub refer-unfolded : (name : List ℕ) (v : Verdict) → FoldsHere s at name (Err v) → Opens tells told s at (next.Reference name) (Err v) w last
  refer-unfolded name answer.OutOfMemory h = λ files k seen sees. tt
  refer-unfolded name v h =
      subst (λ (x : Verdict). Opens tells told s at (next.Reference name) (Err x) w last) (sym h.1)
      (refers-bad tells told s left opens at name w (record { name = BadPath; place = opening.place_in s at }) last still h.0 (denotes-here last.paths s BadPath at here))

  -- the reference file does not begin
  pub refer-unbegun : (name file : List ℕ) → fold_path s.path.now name ≡ Some file → (v : Verdict) (new : State) → BeginsHere s at (Err v) (begin_reference w.run.session.state) new → Opens tells told s at (next.Reference name) (Err v) w last
  refer-unbegun name file folds answer.OutOfMemory new h = λ files k seen sees. tt
  refer-unbegun name file folds v new h =
      subst (λ (x : Verdict). Opens tells told s at (next.Reference name) (Err x) w last) (sym h.2)
      (refers-second tells told s left opens at name w file folds (record { name = h.0; place = opening.place_in s at }) last h.0 still h.1 (denotes-here last.paths s h.0 at here))

-- and its fault is none of an absent file
abbrev Caused : Option Files → (b n : ℕ) → Verdict → Type 0
Caused told b n v = AnswerHasCause v told b n

pub unbegun-present : (told : Option Files) (s : Source) (at : Spot) (v : Verdict) (st new : State) (b n : ℕ) → BeginsHere s at (Err v) (begin_reference st) new → AnswerHasCause v told b n
unbegun-present told s at answer.OutOfMemory st new b n h = tt
unbegun-present None s at v st new b n h = subst (Caused None b n) (sym h.2) (λ e. absurd (begin-present st h.0 h.1 e))
unbegun-present (Some files) s at v st new b n h = subst (Caused (Some files) b n) (sym h.2) tt
