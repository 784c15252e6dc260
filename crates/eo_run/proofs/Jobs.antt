-- The parts of a job, and its verdict, by the results of calls.
use Rattle.std.proofs.Common.{◌≡◌, refl, ℕ, true, false, List, [], Option, None, Some, sym, ap, subst, ◌∙◌}
use Rattle.std.specs.Prelude.{⊤, ◌≢◌, Result, Ok, Err, OnOk, IfErr, slice_get, bytes_eq}
use Rattle.std.specs.List.{list_any}
use Rattle.eo_base.specs.declared.Fault.{Fault}
use Rattle.eo_base.specs.declared.FaultName.{FaultName}
use Rattle.eo_base.specs.declared.FaultName.TheVariants.{BadPath, FileAbsent}
use Rattle.eo_base.specs.declared.Place.{Place}
use Rattle.eo_io.specs.Library.{Files, file_at}
use Rattle.eo_io.specs.Paths.{fold_path}
use Rattle.eo_proof.specs.Scopes.{first_false}
use Rattle.eo_sexp.specs.Spot.{Spot}
use Rattle.eo_sexp.specs.Texts.{first_spot}
use Rattle.eo_session.specs.State.{State, begin_reference, end_fault}
use Rattle.eo_session.specs.Stepping.{Standing}
use Rattle.eo_session.specs.Notes as notes
use Rattle.eo_run.specs.Seen.{Seen}
use Rattle.eo_run.specs.Progress.{Point, progress_at, SeesAt}
use Rattle.eo_run.specs.Run.{Progress, Stopped, Ran, ◌>>=◌, refusal_at, stopped_at, seen_in, shown, commands_of, run_commands, if_given, first_progress, first_load, run_signature, run_job_reference, run_proof, run_check, run_check_after, run_load}
use Rattle.eo_run.specs.Check.{file_end, checked, verdict}
use Rattle.eo_run.specs.Answer.{Answers, AnswerHasCause, Denotes}
use Rattle.eo_run.specs.Ending.{IsLast, LeavesLast}
use Rattle.eo_run.specs.Opening.{opener_of, run_bytes, StopsAs, StillSees, RefusesFile, RunsFile}
use Rattle.eo_run.specs.Judging.{opened_after, counted, run_named, run_of, run_job, run_after, AnswersObserved, SeesJob, IfRun, EndsRun, RunsNamed, RunsPart, IsPlaced, StandsFor, BeginsNamed, AnswersJob, AnswersProof, AnswersLoad}
use Rattle.eo_run.specs.Loading.{RunsLoad, AnswersSession, IsLoadEnd, LoadHasCause, as_loaded}
use Rattle.eo_session.specs.Numbered.{origin_of}
use Rattle.eo_session.specs.Origin.{Origin}
use Rattle.eo_session.specs.Origin as origin
use Rattle.eo_run.specs.declared.CheckEnd.{CheckEnd}
use Rattle.eo_run.specs.declared.CheckEnd.TheVariants as ends
use Rattle.eo_run.specs.declared.CheckJob.{CheckJob}
use Rattle.eo_run.specs.declared.Refutation.{Refutation}
use Rattle.eo_run.specs.declared.Verdict.{Verdict}
use Rattle.eo_run.specs.declared.Verdict.TheVariants as answer
use Rattle.eo_run.specs.declared.checking.Named.{Named}
use Rattle.eo_run.specs.declared.opening.Source.{Source}
use Rattle.eo_run.proofs.Files.{told-some, named-bad, named-absent, named-runs, shown-folded, end-folded, signature-is, proof-is, reference-begun, reference-second, after-is, check-is, load-is, load-runs-is, ends-correct, ends-incomplete, ends-refused, ends-loaded, stops-checked, stops-loaded}
use Rattle.eo_run.proofs.Numbers.{begin-present}
use Rattle.eo_run.proofs.Pieces.{stops-weaker}

-- ---- a named file, by its path

module _ {O : Type 0} (tells : O → List notes.Seen → Type 0) where
  -- its path is none
  pub named-refused : (told : Option Files) (n : Named) (old new : Point O) (v : Verdict) → StillSees tells old new → fold_path [] n.name.now ≡ None → StandsFor new.paths v (refusal_at n.name.now first_spot BadPath) → RunsNamed tells told n (Err v) old new
  named-refused told n old new (answer.Refused fault) still bad h = λ files k seen sees.
      (stopped_at (progress_at old seen) n.name.now first_spot BadPath, named-bad files n.name.now (origin_of n.from) n.wrapped n.opens (progress_at old seen) bad, h, still seen sees)
  named-refused told n old new answer.OutOfMemory still bad h = λ files k seen sees. tt
  named-refused told n old new answer.ReadFault still bad h = absurd h
  named-refused told n old new answer.Correct still bad h = absurd h
  named-refused told n old new answer.Incomplete still bad h = absurd h
  named-refused told n old new (answer.Loaded commands) still bad h = absurd h

  -- it is counted as opened, and then run
  module _ (told : Option Files) (n : Named) (s : Source) (old mid new : Point O) (folds : fold_path [] n.name.now ≡ Some s.path.now) (kind : origin_of s.from ≡ origin_of n.from) (wrapped : s.wrapped ≡ n.wrapped) (opens : s.opens ≡ n.opens)
      (session : mid.run.session.state ≡ old.run.session.state) (included : mid.run.included ≡ old.run.included) (opened : mid.run.opened ≡ opened_after n.wrapped old.run.opened s.path.now) (still : StillSees tells old mid) where
    start : (seen : List Seen) → progress_at mid seen ≡ counted n.wrapped (progress_at old seen) s.path.now
    start seen = λ j. record { state = session j; included = included j; opened = opened j; seen = seen }

    by_source : (files : Files) (bytes : List ℕ) (seen : List Seen) → file_at files s.path.now ≡ Some bytes → run_of files n (progress_at old seen) ≡ run_bytes files s bytes (progress_at mid seen)
    by_source files bytes seen e =
        named-runs files n.name.now (origin_of n.from) n.wrapped n.opens (progress_at old seen) s.path.now folds bytes e
        ∙ (λ j. run_commands (opener_of files (sym opens j)) s.path.now (sym kind j) (commands_of (sym wrapped j) bytes) (sym (start seen) j))

    pub path-runs : (at : Spot) (place : Place) → slice_get new.paths place.file ≡ Some s.path.now → place.line ≡ at.line → place.offset ≡ at.offset → RunsFile tells told s (Ok (Some at)) mid new → RunsNamed tells told n (Ok place) old new
    path-runs at place file line offset h = λ files k seen sees.
        let g = h files k in
        let b = g.2 seen (still seen sees) in
        let end : origin_of n.from ≢ origin.Reference → at ≡ file_end files n.name.now = λ other. b.3 (subst (λ (o : Origin). o ≢ origin.Reference) (sym kind) other) ∙ sym (end-folded files n.name.now s.path.now folds g.0 g.1) in (
          b.0,
          b.1,
          record {
            runs = by_source files g.0 seen g.1 ∙ b.2;
            file = file ∙ ap (λ (p : List ℕ). Some p) (sym (shown-folded files n.name.now s.path.now folds));
            line = λ other. line ∙ ap (λ (x : Spot). x.line) (end other);
            offset = λ other. offset ∙ ap (λ (x : Spot). x.offset) (end other);
          },
        )

    pub path-absent : (fault : Fault) → Denotes new.paths fault (refusal_at s.path.now first_spot FileAbsent) → RunsFile tells told s (Ok None) mid new → RunsNamed tells told n (Err (answer.Refused fault)) old new
    path-absent fault d h = λ files k seen sees.
        let g = h files k in
        (stopped_at (progress_at old seen) s.path.now first_spot FileAbsent, named-absent files n.name.now (origin_of n.from) n.wrapped n.opens (progress_at old seen) s.path.now folds g.0, d, g.1 seen (still seen sees))

    pub path-stops : (v : Verdict) → RunsFile tells told s (Err v) mid new → RunsNamed tells told n (Err v) old new
    path-stops v h = λ files k seen sees.
        stops-weaker (RefusesFile files s (progress_at mid seen)) (λ stopped. run_of files n (progress_at old seen) ≡ Err stopped) (SeesAt tells new) new.paths v
        (λ stopped g. by_source files g.0 seen g.1 ∙ g.2) (h files k seen (still seen sees))

-- ---- a named file as a part of the job

proof-other : origin.Proof ≢ origin.Reference
proof-other e = cc e

signature-other : origin.Signature ≢ origin.Reference
signature-other e = cc e

module _ {O : Type 0} (tells : O → List notes.Seen → Type 0) (told : Option Files) (n : Named) (old mid new : Point O) (still : StillSees tells old mid) (run : Files → Progress → Ran) (same : (files : Files) (seen : List Seen) → run files (progress_at old seen) ≡ run_of files n (progress_at mid seen)) where
  pub part-runs : (place : Place) (x : Unit {0}) → RunsNamed tells told n (Ok place) mid new → RunsPart tells told run (Ok x) old new
  part-runs place x h = λ files k seen sees. let b = h files k seen (still seen sees) in (b.0, b.1, same files seen ∙ b.2.runs)

  pub part-stops : (v : Verdict) → RunsNamed tells told n (Err v) mid new → RunsPart tells told run (Err v) old new
  part-stops v h = λ files k seen sees.
      stops-weaker (λ stopped. run_of files n (progress_at mid seen) ≡ Err stopped) (λ stopped. run files (progress_at old seen) ≡ Err stopped) (SeesAt tells new) new.paths v (λ stopped e. same files seen ∙ e) (h files k seen (still seen sees))

  -- the file was run to its end
  part-ends : (name : List ℕ) (place : Place) → n.name.now ≡ name → (files : Files) (seen all : List Seen) → EndsRun files n.name.now (origin_of n.from) (run_of files n (progress_at mid seen)) (progress_at new all) new.paths place
      → EndsRun files name (origin_of n.from) (run files (progress_at old seen)) (progress_at new all) new.paths place
  part-ends name place e files seen all h =
      subst (λ (r : Ran). EndsRun files name (origin_of n.from) r (progress_at new all) new.paths place) (sym (same files seen))
      (subst (λ (m : List ℕ). EndsRun files m (origin_of n.from) (run_of files n (progress_at mid seen)) (progress_at new all) new.paths place) e h)

  -- what was accepted is seen
  sees-all : (files : Files) (seen all : List Seen) → run files (progress_at old seen) ≡ Ok (progress_at new all) → SeesAt tells new all → SeesAt tells new (seen_in (run files (progress_at old seen)))
  sees-all files seen all e h = subst (SeesAt tells new) (ap seen_in (sym e)) h

  module _ (name : List ℕ) (place : Place) (e : n.name.now ≡ name) (h : RunsNamed tells told n (Ok place) mid new) where
    pub proof-correct : end_fault new.run.session.state ≡ None → new.run.session.state.sorry ≡ false → AnswersProof tells told name run old new answer.Correct
    proof-correct none s = λ files k seen sees.
        let b = h files k seen (still seen sees) in
        let ends = part-ends name place e files seen b.0 b.2 in
        (ends-correct files name (origin_of n.from) (run files (progress_at old seen)) (progress_at new b.0) new.paths place ends none s, sees-all files seen b.0 ends.runs b.1)

    pub proof-incomplete : end_fault new.run.session.state ≡ None → new.run.session.state.sorry ≡ true → AnswersProof tells told name run old new answer.Incomplete
    proof-incomplete none s = λ files k seen sees.
        let b = h files k seen (still seen sees) in
        let ends = part-ends name place e files seen b.0 b.2 in
        (ends-incomplete files name (origin_of n.from) (run files (progress_at old seen)) (progress_at new b.0) new.paths place ends none s, sees-all files seen b.0 ends.runs b.1)

    pub proof-refused : origin_of n.from ≡ origin.Proof → (fault : FaultName) → Some fault ≡ end_fault new.run.session.state → AnswersProof tells told name run old new (answer.Refused (record { name = fault; place = place }))
    proof-refused kind fault f = λ files k seen sees.
        let b = h files k seen (still seen sees) in
        let ends = part-ends name place e files seen b.0 b.2 in
        (ends-refused files name (origin_of n.from) (run files (progress_at old seen)) (progress_at new b.0) new.paths place ends (λ other. proof-other (sym kind ∙ other)) fault f, sees-all files seen b.0 ends.runs b.1)

    -- what is known at the end of a correct proof
    pub proof-last : origin_of n.from ≡ origin.Proof → new.run.session.ended ≡ false → (r : Refutation) → first_false new.run.session.state.scopes ≡ Some r.command → r.end ≡ place
        → ((path : List ℕ) → slice_get new.paths place.file ≡ Some path → r.shared ≡ list_any (bytes_eq path) new.run.opened) → IsLast tells told name run r old new
    proof-last kind going r command end shared = record {
      going = going;
      runs = λ files k seen sees.
          let b = h files k seen (still seen sees) in
          let at = part-ends name place e files seen b.0 b.2 in
          let other : origin_of n.from ≢ origin.Reference = λ o. proof-other (sym kind ∙ o) in (
            b.0,
            b.1,
            at.runs,
            record {
              command = command;
              file = ap (λ (x : Place). slice_get new.paths x.file) end ∙ at.file;
              line = ap (λ (x : Place). x.line) end ∙ at.line other;
              offset = ap (λ (x : Place). x.offset) end ∙ at.offset other;
              shared = shared (shown name) at.file;
            },
          );
    }

  pub proof-stops : (name : List ℕ) (v : Verdict) → RunsNamed tells told n (Err v) mid new → AnswersProof tells told name run old new v
  proof-stops name v h = λ files k seen sees. stops-checked files name (run files (progress_at old seen)) (SeesAt tells new) new.paths v (part-stops v h files k seen sees)

-- the file's run, by what it is
module _ (n : Named) (old : Progress) (files : Files) (plain : n.wrapped ≡ false) where
  pub is-signature : origin_of n.from ≡ origin.Signature → n.opens ≡ 17 → run_signature files n.name.now old ≡ run_of files n old
  is-signature kind opens = signature-is files n.name.now old ∙ (λ j. run_named files n.name.now (sym kind j) (sym plain j) (sym opens j) old)

  pub is-reference : (p : Progress) (st : State) → begin_reference p.state ≡ Ok st → old ≡ record p { state = st } → origin_of n.from ≡ origin.Reference → n.opens ≡ 0 → run_job_reference files n.name.now p ≡ run_of files n old
  is-reference p st begins same kind opens =
      reference-begun files n.name.now p st begins ∙ (λ j. run_named files n.name.now (sym kind j) (sym plain j) (sym opens j) (sym same j))

pub is-proof : (n : Named) (old : Progress) (files : Files) → n.wrapped ≡ true → origin_of n.from ≡ origin.Proof → n.opens ≡ 17 → run_proof files n.name.now old ≡ run_of files n old
is-proof n old files wrapped kind opens = proof-is files n.name.now old ∙ (λ j. run_named files n.name.now (sym kind j) (sym wrapped j) (sym opens j) old)

-- ---- the parts of a job

module _ {O : Type 0} (tells : O → List notes.Seen → Type 0) where
  -- and one that it names
  pub part-some : (told : Option Files) (run : Files → List ℕ → Progress → Ran) (given : Option (List ℕ)) (name : List ℕ) (old new : Point O) (r : Result (Unit {0}) Verdict) → given ≡ Some name → RunsPart tells told (λ files. run files name) r old new → RunsPart tells told (λ files. if_given (run files) given) r old new
  part-some told run given name old new r e h = subst (λ (o : Option (List ℕ)). RunsPart tells told (λ files. if_given (run files) o) r old new) (sym e) (named r h)
    where
      named : (r : Result (Unit {0}) Verdict) → RunsPart tells told (λ files. run files name) r old new → RunsPart tells told (λ files. if_given (run files) (Some name)) r old new
      named (Ok x) g = g
      named (Err v) g = g

  -- the job's reference file may not begin
  pub second-stops : (told : Option Files) (name : List ℕ) (old new : Point O) (v : Verdict) (st : State) → StillSees tells old new → BeginsNamed new.paths name (Err v) (begin_reference old.run.session.state) st → RunsPart tells told (λ files. run_job_reference files name) (Err v) old new
  second-stops told name old new (answer.Refused fault) st still h = λ files k seen sees.
      (stopped_at (progress_at old seen) (shown name) first_spot h.0, reference-second files name (progress_at old seen) h.0 h.1, h.2, still seen sees)
  second-stops told name old new answer.OutOfMemory st still h = λ files k seen sees. tt
  second-stops told name old new answer.ReadFault st still h = λ files k seen sees. tt
  second-stops told name old new answer.Correct st still h = absurd h.2
  second-stops told name old new answer.Incomplete st still h = absurd h.2
  second-stops told name old new (answer.Loaded commands) st still h = absurd h.2

-- and its fault is none of an absent file
pub second-cause : (told : Option Files) (name : List ℕ) (paths : List (List ℕ)) (v : Verdict) (st new : State) (b c : ℕ) → BeginsNamed paths name (Err v) (begin_reference st) new → AnswerHasCause v told b c
second-cause None name paths (answer.Refused fault) st new b c h = λ a. absurd (begin-present st h.0 h.1 (sym h.2.name ∙ a))
second-cause (Some files) name paths (answer.Refused fault) st new b c h = tt
second-cause told name paths answer.ReadFault st new b c h = absurd h.2
second-cause told name paths answer.OutOfMemory st new b c h = tt
second-cause told name paths answer.Correct st new b c h = tt
second-cause told name paths answer.Incomplete st new b c h = tt
second-cause told name paths (answer.Loaded commands) st new b c h = tt

module _ {O : Type 0} (tells : O → List notes.Seen → Type 0) where
  -- ---- one part after another

  module _ (told : Option Files) (first then : Files → Progress → Ran) where
    abbrev both : Files → Progress → Ran
    both files p = first files p >>= then files

    both-runs : (files : Files) (p q : Progress) → first files p ≡ Ok q → both files p ≡ then files q
    unfolding ◌>>=◌
    both-runs files p q e = ap (λ m. m >>= then files) e

    both-stops : (files : Files) (p : Progress) (stopped : Stopped) → first files p ≡ Err stopped → both files p ≡ Err stopped
    unfolding ◌>>=◌
    both-stops files p stopped e = ap (λ m. m >>= then files) e

    -- the first is refused
    pub first-stops : (old new : Point O) (v : Verdict) → RunsPart tells told first (Err v) old new → RunsPart tells told both (Err v) old new
    first-stops old new v h = λ files k seen sees.
        stops-weaker (λ stopped. first files (progress_at old seen) ≡ Err stopped) (λ stopped. both files (progress_at old seen) ≡ Err stopped) (SeesAt tells new) new.paths v
        (λ stopped e. both-stops files (progress_at old seen) stopped e) (h files k seen sees)

    module _ (later : Option Files) (same : later ≡ told) (old mid new : Point O) (x : Unit {0}) (h : RunsPart tells told first (Ok x) old mid) where
      pub both-run : (r : Result (Unit {0}) Verdict) → RunsPart tells later then r mid new → RunsPart tells told both r old new
      both-run (Ok y) g = λ files k seen sees.
          let a = h files k seen sees in
          let b = g files (same ∙ k) a.0 a.1 in
          (b.0, b.1, both-runs files (progress_at old seen) (progress_at mid a.0) a.2 ∙ b.2)
      both-run (Err v) g = λ files k seen sees.
          let a = h files k seen sees in
          stops-weaker (λ stopped. then files (progress_at mid a.0) ≡ Err stopped) (λ stopped. both files (progress_at old seen) ≡ Err stopped) (SeesAt tells new) new.paths v
          (λ stopped e. both-runs files (progress_at old seen) (progress_at mid a.0) a.2 ∙ e) (g files (same ∙ k) a.0 a.1)

      -- the answer for the second is that for both
      pub both-answer : (proof : List ℕ) (v : Verdict) → AnswersProof tells later proof then mid new v → AnswersProof tells told proof both old new v
      both-answer proof v g = λ files k seen sees.
          let a = h files k seen sees in
          subst (λ (r : Ran). Answers new.paths v (checked files proof r) × IfRun v (SeesAt tells new (seen_in r))) (sym (both-runs files (progress_at old seen) (progress_at mid a.0) a.2)) (g files (same ∙ k) a.0 a.1)

      pub both-last : (proof : List ℕ) (e : CheckEnd) → LeavesLast tells later proof then e mid new → LeavesLast tells told proof both e old new
      both-last proof (ends.Correct r) g = record {
        going = g.going;
        runs = λ files k seen sees.
            let a = h files k seen sees in
            let b = g.runs files (same ∙ k) a.0 a.1 in
            (b.0, b.1, both-runs files (progress_at old seen) (progress_at mid a.0) a.2 ∙ b.2, b.3);
      }
      both-last proof (ends.Ended v) g = tt

  -- what stops before the proof is the verdict
  pub part-answers : (told : Option Files) (proof : List ℕ) (run : Files → Progress → Ran) (old new : Point O) (v : Verdict) → RunsPart tells told run (Err v) old new → AnswersProof tells told proof run old new v
  part-answers told proof run old new v h = λ files k seen sees. stops-checked files proof (run files (progress_at old seen)) (SeesAt tells new) new.paths v (h files k seen sees)

-- ---- a check

module _ {O : Type 0} (tells : O → List notes.Seen → Type 0) (told : Option Files) (prelude : Option (List ℕ)) (job : CheckJob) (old new : Point O) (begins : progress_at old [] ≡ first_progress job) (none : SeesAt tells old []) (v : Verdict)
    (h : AnswersProof tells told job.proof (λ files. run_after files prelude job) old new v) where
  whole : (files : Files) → told ≡ Some files → Answers new.paths v (checked files job.proof (run_check_after files prelude job)) × IfRun v (SeesAt tells new (seen_in (run_check_after files prelude job)))
  whole files k =
      subst (λ (r : Ran). Answers new.paths v (checked files job.proof r) × IfRun v (SeesAt tells new (seen_in r))) (ap (run_after files prelude job) begins ∙ sym (after-is files prelude job)) (h files k [] none)

  pub whole-answers : AnswersObserved told prelude job new.paths v
  whole-answers = told-some told _ (λ files k. (whole files k).0)

  pub whole-sees : SeesJob tells new.observer told prelude job new.paths v
  whole-sees = sees v (λ files k. (whole files k).1)
    where
      sees : (w : Verdict) → ((files : Files) → told ≡ Some files → IfRun w (SeesAt tells new (seen_in (run_check_after files prelude job)))) → SeesJob tells new.observer told prelude job new.paths w
      sees answer.ReadFault h = tt
      sees answer.OutOfMemory h = tt
      sees answer.Correct h = told-some told _ h
      sees answer.Incomplete h = told-some told _ h
      sees (answer.Loaded commands) h = told-some told _ h
      sees (answer.Refused fault) h = told-some told _ h

-- a check without a prelude answers by the verdict of its job
pub none-answers : (told : Option Files) (job : CheckJob) (paths : List (List ℕ)) (v : Verdict) → AnswersObserved told None job paths v → AnswersJob told job paths v
unfolding verdict run_check
none-answers None job paths v h = tt
none-answers (Some files) job paths v h = h

-- and so does one that begins with the job
pub job-answers : {O : Type 0} (tells : O → List notes.Seen → Type 0) (files : Files) (job : CheckJob) (old new : Point O) (v : Verdict) → progress_at old [] ≡ first_progress job → SeesAt tells old []
    → AnswersProof tells (Some files) job.proof (λ f. run_job f job) old new v → Answers new.paths v (verdict files job)
unfolding verdict
job-answers tells files job old new v begins none h = subst (λ (r : Ran). Answers new.paths v (checked files job.proof r)) (ap (run_job files job) begins ∙ sym (check-is files job)) (h files refl [] none).0

-- ---- a load

-- of what was accepted before nothing is said
stops-unseen : (P : Stopped → Type 0) (H : List Seen → Type 0) (paths : List (List ℕ)) (v : Verdict) → StopsAs P H paths v → StopsAs P (λ seen. ⊤) paths v
stops-unseen P H paths answer.Correct h = absurd h
stops-unseen P H paths answer.Incomplete h = absurd h
stops-unseen P H paths (answer.Loaded commands) h = absurd h
stops-unseen P H paths (answer.Refused fault) h = (h.0, h.1, h.2, tt)
stops-unseen P H paths answer.ReadFault h = tt
stops-unseen P H paths answer.OutOfMemory h = tt

module _ {O : Type 0} (tells : O → List notes.Seen → Type 0) (told : Option Files) (name : List ℕ) (old new : Point O) where
  module _ (n : Named) (e : n.name.now ≡ name) (begins : progress_at old [] ≡ first_load name) (same : (files : Files) → run_signature files name (first_load name) ≡ run_of files n (first_load name)) where
    ran-same : (files : Files) → run_load files name ≡ run_of files n (progress_at old [])
    ran-same files = load-runs-is files name ∙ same files ∙ ap (run_of files n) (sym begins)

    pub load-ends : (r : Result Place Verdict) → origin_of n.from ≡ origin.Signature → RunsNamed tells told n r old new → RunsLoad tells told name r old new
    load-ends (Ok place) kind h = λ files k sees.
        let b = h files k [] sees in (
          b.0,
          b.1,
          subst (λ (o : Origin). EndsRun files name o (run_load files name) (progress_at new b.0) new.paths place) kind
              (subst (λ (r : Ran). EndsRun files name (origin_of n.from) r (progress_at new b.0) new.paths place) (sym (ran-same files))
              (subst (λ (m : List ℕ). EndsRun files m (origin_of n.from) (run_of files n (progress_at old [])) (progress_at new b.0) new.paths place) e b.2)),
        )
    load-ends (Err v) kind h = λ files k sees.
        stops-weaker (λ stopped. run_of files n (progress_at old []) ≡ Err stopped) (λ stopped. run_load files name ≡ Err stopped) (SeesAt tells new) new.paths v (λ stopped g. ran-same files ∙ g) (h files k [] sees)

  -- of a load nothing need be seen
  module _ (none : SeesAt tells old []) where
    pub loaded-runs : (place : Place) → RunsLoad tells told name (Ok place) old new → AnswersLoad told name new.paths (answer.Loaded new.run.session.state.commands)
    loaded-runs place h = told-some told _ (λ files k. let b = h files k none in load-is files name ∙ ends-loaded files name origin.Signature _ (progress_at new b.0) new.paths place b.2)

    pub loaded-stops : (v : Verdict) → RunsLoad tells told name (Err v) old new → AnswersLoad told name new.paths v
    loaded-stops v h = told-some told _ (λ files k. subst (λ w. Answers new.paths v w) (sym (load-is files name)) (stops-loaded _ (SeesAt tells new) new.paths v (h files k none)))

    -- and its session is kept
    pub session-loads : (s : Standing) (r : Result Place Verdict) → s.state ≡ new.run.session.state → RunsLoad tells told name r old new → AnswersSession told name new.paths (as_loaded s r)
    session-loads s (Ok place) same h = λ files k.
        let b = h files k none in
        record { last = progress_at new b.0; runs = b.2.runs; state = same; file = b.2.file; line = b.2.line signature-other; offset = b.2.offset signature-other }
    session-loads s (Err v) same h = λ files k. stops-unseen (λ stopped. run_load files name ≡ Err stopped) (SeesAt tells new) new.paths v (h files k none)

pub session-kind : (paths : List (List ℕ)) (s : Standing) (r : Result Place Verdict) → OnOk r (s.ended ≡ false) → IsPlaced paths r → IsLoadEnd paths (as_loaded s r)
session-kind paths s (Ok place) going h = (going, h)
session-kind paths s (Err v) going h = h

pub session-cause : (told : Option Files) (s : Standing) (r : Result Place Verdict) (b c : ℕ) → IfErr r (λ v. AnswerHasCause v told b c) → LoadHasCause (as_loaded s r) told b c
session-cause told s (Ok place) b c h = tt
session-cause told s (Err v) b c h = h
