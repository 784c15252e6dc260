-- A trimmed proof comes of what a recorder has of a correct run.
use Rattle.std.proofs.Common.{◌≡◌, refl, ℕ, ◌-◌, ◌^◌, ◌≤◌, List, [], ◌∷◌, length, sym, ap, ap₂, ◌∙◌, subst, arith}
use Rattle.std.specs.Prelude.{Bool, true, false, if◌then◌else◌, Option, Some, None, IsSome, option_to_list, slice_get, Ok}
use Rattle.std.proofs.lemmas.List.Elements.{All-weaker}
use Rattle.eo_base.specs.declared.Place.{Place}
use Rattle.eo_base.specs.declared.FaultName.TheVariants.{ProofShared}
use Rattle.eo_io.specs.Library.{Files}
use Rattle.eo_io.specs.Paths.{Extends}
use Rattle.eo_proof.specs.Scopes.{first_false}
use Rattle.eo_run.specs.Answer.{Answers}
use Rattle.eo_run.specs.Check.{verdict, checked, file_end}
use Rattle.eo_run.specs.Ending.{IsRefutation, RefutesJob, IsCheckEnd}
use Rattle.eo_run.specs.Judging.{AnswersObserved, SeesJob}
use Rattle.eo_run.specs.Run.{Progress, Ran, refusal_at, shown, seen_in, run_check, run_check_after}
use Rattle.eo_run.specs.Verdict.{Verdict, Refusal, Correct, Incomplete, Refused}
use Rattle.eo_run.specs.Watching.{Sees, AreSeen}
use Rattle.eo_run.specs.declared.CheckEnd.TheVariants as ending
use Rattle.eo_run.specs.declared.CheckJob.{CheckJob}
use Rattle.eo_run.specs.declared.Refutation.{Refutation}
use Rattle.eo_run.specs.declared.Verdict as code
use Rattle.eo_run.specs.declared.Verdict.TheVariants as answer
use Rattle.eo_session.specs.Notes.{Seen}
use Rattle.eo_trim.specs.Correct.{AreCounted}
use Rattle.eo_trim.specs.Entries.{Entry, entries_from}
use Rattle.eo_trim.specs.Marking.{AreBelow, IsBelow, AreMarked, is_marked, entry_needs, text_of}
use Rattle.eo_trim.specs.Needed.{trimmed}
use Rattle.eo_trim.specs.Needing.{needed, needs, contains}
use Rattle.eo_trim.specs.Recording.{Records}
use Rattle.eo_trim.specs.Trim as trim
use Rattle.eo_trim.specs.Trim.{is_shared, trimmed_proof, trimmed_or_shared, trimmed_if}
use Rattle.eo_trim.specs.TrimAnswers.{Trims, AnswersTrim, IsShorter, TrimmedStays, TrimHasCause, IsTrimAnswer, TrimsEntries, needed_text}
use Rattle.eo_trim.specs.declared.TrimEnd.{TrimEnd}
use Rattle.eo_trim.specs.declared.TrimEnd.TheVariants as end
use Rattle.eo_trim.specs.declared.recording.Recorder.{Recorder}
use Rattle.eo_trim.proofs.EntryLaws.{AreAlike, needs-are, text-is, text-same}
use Rattle.eo_trim.proofs.Law.{run_is_part, keeps_needed, trim_stays_correct}
use Rattle.eo_trim.proofs.Numbered.{alike-first, alike-length, numbers-below}
use Rattle.eo_trim.proofs.Running.{ran_injective}

-- ---- marks

-- a text by marks is that by the numbers that are marked
pub text-marked : (marks : List Bool) (numbers : List ℕ) (entries : List Entry) → length marks ≡ length entries → AreBelow (length entries) entries → AreMarked marks numbers
    → text_of (is_marked marks) entries ≡ text_of (contains numbers) entries
text-marked marks numbers entries same below h =
    text-same (is_marked marks) (contains numbers) entries
    (All-weaker (λ (e : Entry). IsBelow (length entries) e.head) (λ (e : Entry). is_marked marks e.head.number ≡ contains numbers e.head.number)
    (λ e b. h.are e.head.number (omega (arith, b.number, same))) entries below)

-- ---- what is returned whether files are known or not

pub trims-cause : {F : Type 0} (entries : List Entry) (r : Refutation) (e : TrimEnd) (told : Option F) (before now : ℕ) → TrimsEntries entries r e → TrimHasCause e told before now
trims-cause entries r (end.Trimmed bytes) told before now h = tt
trims-cause entries r (end.Other (answer.Refused fault)) None before now h = λ absent. absurd (cc (sym absent ∙ h.1))
trims-cause entries r (end.Other (answer.Refused fault)) (Some files) before now h = tt
trims-cause entries r (end.Other answer.OutOfMemory) told before now h = tt
trims-cause entries r (end.Other v) told before now h = absurd h

pub trims-kind : (paths : List (List ℕ)) (entries : List Entry) (r : Refutation) (e : TrimEnd) → IsCheckEnd paths (ending.Correct r) → TrimsEntries entries r e → IsTrimAnswer paths e
trims-kind paths entries r (end.Trimmed bytes) k h = tt
trims-kind paths entries r (end.Other (answer.Refused fault)) k h = subst (λ (place : Place). IsSome (slice_get paths place.file)) (sym h.2) k
trims-kind paths entries r (end.Other answer.OutOfMemory) k h = tt
trims-kind paths entries r (end.Other v) k h = absurd h

pub ended-kind : (paths : List (List ℕ)) (v : code.Verdict) → IsCheckEnd paths (ending.Ended v) → IsTrimAnswer paths (end.Other v)
ended-kind paths answer.Correct k = absurd k
ended-kind paths answer.Incomplete k = k
ended-kind paths (answer.Loaded commands) k = absurd k
ended-kind paths (answer.Refused fault) k = k
ended-kind paths answer.ReadFault k = tt
ended-kind paths answer.OutOfMemory k = tt

module _ (files : Files) (job : CheckJob) where
  -- ---- a check that is not correct

  trim-other : (of : Verdict) → verdict files job ≡ of → (trimmed_if files job of (run_check files job) ≡ trim.Other of) → trim.trim files job ≡ trim.Other of
  unfolding trim.trim
  trim-other of v e = ap (λ (x : Verdict). trimmed_if files job x (run_check files job)) v ∙ e

  ended-trims : (paths : List (List ℕ)) (v : code.Verdict) → IsCheckEnd paths (ending.Ended v) → Answers paths v (verdict files job) → Trims paths (end.Other v) (trim.trim files job)
  ended-trims paths answer.Correct k h = absurd k
  ended-trims paths answer.Incomplete k h = (Incomplete, trim-other Incomplete h refl, refl)
  ended-trims paths (answer.Loaded commands) k h = absurd k
  ended-trims paths (answer.Refused fault) k h = (Refused h.0, trim-other (Refused h.0) h.1 refl, (h.0, refl, h.2))
  ended-trims paths answer.ReadFault k h = tt
  ended-trims paths answer.OutOfMemory k h = tt

  -- ---- a check that is correct

  module _ (final : Progress) (correct : verdict files job ≡ Correct) (ends : run_check files job ≡ Ok final) where
    trim-is : trim.trim files job ≡ trimmed_or_shared files job final
    unfolding trim.trim
    trim-is = ap₂ (trimmed_if files job) correct ends

    abbrev at_end : Refusal
    at_end = refusal_at (shown job.proof) (file_end files job.proof) ProofShared

    trim-shared : is_shared (shown job.proof) final ≡ true → trim.trim files job ≡ trim.Other (Refused at_end)
    trim-shared s = trim-is ∙ ap (λ (b : Bool). if b then trim.Other (Refused at_end) else trim.Trimmed (trimmed_proof (shown job.proof) final)) s

    trim-alone : is_shared (shown job.proof) final ≡ false → trim.trim files job ≡ trim.Trimmed (trimmed_proof (shown job.proof) final)
    trim-alone s = trim-is ∙ ap (λ (b : Bool). if b then trim.Other (Refused at_end) else trim.Trimmed (trimmed_proof (shown job.proof) final)) s

    -- the fault of a proof that is opened in another place too
    other-trims : (paths : List (List ℕ)) (r : Refutation) (v : code.Verdict) (entries : List Entry) → IsRefutation files job.proof paths final r → TrimsEntries entries r (end.Other v)
        → Trims paths (end.Other v) (trim.trim files job)
    other-trims paths r (answer.Refused fault) entries i h = (
      Refused at_end,
      trim-shared (sym i.shared ∙ h.0),
      (
        at_end,
        refl,
        record {
          name = h.1;
          file = ap (λ (place : Place). slice_get paths place.file) h.2 ∙ i.file;
          line = ap (λ (place : Place). place.line) h.2 ∙ i.line;
          offset = ap (λ (place : Place). place.offset) h.2 ∙ i.offset;
        },
      ),
    )
    other-trims paths r answer.OutOfMemory entries i h = tt
    other-trims paths r v entries i h = absurd h

    -- the entries that a recorder has of the run, whose proof is opened in no other place
    module _ (more : List (List ℕ)) (ms : List Seen) (seen : AreSeen (shown job.proof ∷ more) ms final.seen) (few : length (entries_from 0 [] ms) ≤ 2 ^ 64 - 1) (alone : is_shared (shown job.proof) final ≡ false) where
      abbrev proof : List ℕ
      proof = shown job.proof

      alike : AreAlike 0 proof ms final.seen
      alike = alike-first proof more ms final.seen seen

      count : length (entries_from 0 [] ms) ≡ length final.seen
      count = alike-length 0 proof ms final.seen alike []

      few-seen : length final.seen ≤ 2 ^ 64 - 1
      few-seen = subst (λ (n : ℕ). n ≤ 2 ^ 64 - 1) count few

      numbers-are : AreBelow (length (entries_from 0 [] ms)) (entries_from 0 [] ms)
      numbers-are =
          numbers-below 0 proof (option_to_list (first_false final.state.scopes)) (length (entries_from 0 [] ms)) ms final.seen alike [] [] 0
          (run_is_part files job final ends correct alone few-seen) tt (omega (arith, count))

      text-is-needed : (command : ℕ) → first_false final.state.scopes ≡ Some command → trimmed_proof (shown job.proof) final ≡ needed_text command (entries_from 0 [] ms)
      text-is-needed command e =
          let last = ap (λ (o : Option ℕ). option_to_list o) e in
          let same = needs-are proof 0 (command ∷ []) ms final.seen alike [] in
          let holds : needed proof final ≡ contains (entry_needs (command ∷ []) (entries_from 0 [] ms)) =
          ap (λ (ns : List ℕ). contains (needs proof [] ns final.seen)) last ∙ ap contains same in
          ap (λ (f : ℕ → Bool). trimmed proof f final.seen) holds ∙ text-is proof 0 (contains (entry_needs (command ∷ []) (entries_from 0 [] ms))) ms final.seen alike []

      -- it is shorter, and correct
      shorter : (bytes : List ℕ) → trim.trim files job ≡ trim.Trimmed bytes → IsShorter files job bytes
      shorter bytes e =
          let counted : AreCounted files job = λ f r. subst (λ (x : Progress). length x.seen ≤ 2 ^ 64 - 1) (ran_injective final f (sym ends ∙ r)) few-seen in
          let kept = keeps_needed files job bytes counted e final ends in
          record { final = final; ends = ends; least = kept.0; is = kept.1; stays = trim_stays_correct files job bytes counted e }

    -- where it is trimmed
    module _ (paths : List (List ℕ)) (recorder : Recorder) (r : Refutation) (i : IsRefutation files job.proof paths final r) (s : Sees Records recorder paths final.seen) (grows : Extends (shown job.proof ∷ []) paths)
        (bytes : List ℕ) (h : TrimsEntries recorder.entries r (end.Trimmed bytes)) where
      abbrev there : AreSeen (shown job.proof ∷ grows.0) s.seen_by final.seen
      there = subst (λ (ps : List (List ℕ)). AreSeen ps s.seen_by final.seen) grows.1 s.are

      abbrev entries : List Entry
      entries = entries_from 0 [] s.seen_by

      abbrev few : length entries ≤ 2 ^ 64 - 1
      few = subst (λ (es : List Entry). length es ≤ 2 ^ 64 - 1) s.told.entries h.1

      abbrev alone : is_shared (shown job.proof) final ≡ false
      alone = sym i.shared ∙ h.0

      bytes-are : trim.trim files job ≡ trim.Trimmed bytes
      bytes-are =
          let text = subst (λ (es : List Entry). AreBelow (length es) es → bytes ≡ needed_text r.command es) s.told.entries h.2 in
          trim-alone alone
          ∙ ap trim.Trimmed (text-is-needed grows.0 s.seen_by there few alone r.command i.command ∙ sym (text (numbers-are grows.0 s.seen_by there few alone)))

      bytes-shorter : IsShorter files job bytes
      bytes-shorter = shorter grows.0 s.seen_by there few alone bytes bytes-are

-- ---- by what an observed check returns

verdict-is : (files : Files) (job : CheckJob) (v : Verdict) → checked files job.proof (run_check_after files None job) ≡ v → verdict files job ≡ v
unfolding verdict run_check
verdict-is files job v h = h

answers-is : (files : Files) (job : CheckJob) (paths : List (List ℕ)) (v : code.Verdict) → Answers paths v (checked files job.proof (run_check_after files None job)) → Answers paths v (verdict files job)
unfolding verdict run_check
answers-is files job paths v h = h

run-is : (files : Files) (job : CheckJob) (final : Progress) → run_check_after files None job ≡ Ok final → run_check files job ≡ Ok final
unfolding run_check
run-is files job final e = e

pub ended : (told : Option Files) (job : CheckJob) (paths : List (List ℕ)) (v : code.Verdict) → IsCheckEnd paths (ending.Ended v) → AnswersObserved told None job paths v → AnswersTrim told job paths (end.Other v)
ended None job paths v k h = tt
ended (Some files) job paths v k h = ended-trims files job paths v k (answers-is files job paths v h)

module _ (job : CheckJob) (paths : List (List ℕ)) (recorder : Recorder) (r : Refutation) (grows : Extends (shown job.proof ∷ []) paths) where
  -- what is known of an observed check that is correct
  pub record IsObserved (told : Option Files) : Type 0 where
    pub verdict : AnswersObserved told None job paths answer.Correct
    pub refutes : RefutesJob told None job paths (ending.Correct r)
    pub sees : SeesJob Records recorder told None job paths answer.Correct

  sees-final : (files : Files) (o : IsObserved (Some files)) → Sees Records recorder paths o.refutes.0.seen
  sees-final files o = subst (λ (ran : Ran). Sees Records recorder paths (seen_in ran)) o.refutes.1 o.sees

  pub recorded : (told : Option Files) (e : TrimEnd) → IsObserved told → TrimsEntries recorder.entries r e → AnswersTrim told job paths e
  recorded None e o h = tt
  recorded (Some files) (end.Trimmed bytes) o h =
      bytes-are files job o.refutes.0 (verdict-is files job Correct o.verdict) (run-is files job o.refutes.0 o.refutes.1) paths recorder r o.refutes.2 (sees-final files o) grows bytes h
  recorded (Some files) (end.Other v) o h =
      other-trims files job o.refutes.0 (verdict-is files job Correct o.verdict) (run-is files job o.refutes.0 o.refutes.1) paths r v recorder.entries o.refutes.2 h

  pub recorded-stays : (told : Option Files) (e : TrimEnd) → IsObserved told → TrimsEntries recorder.entries r e → TrimmedStays told job e
  recorded-stays told (end.Other v) o h = tt
  recorded-stays None (end.Trimmed bytes) o h = tt
  recorded-stays (Some files) (end.Trimmed bytes) o h =
      bytes-shorter files job o.refutes.0 (verdict-is files job Correct o.verdict) (run-is files job o.refutes.0 o.refutes.1) paths recorder r o.refutes.2 (sees-final files o) grows bytes h
