-- The files that a job names, and the verdict.
use Rattle.std.proofs.Common.{◌≡◌, refl, ℕ, Bool, true, false, not, List, [], sym, ap, subst, ◌∙◌}
use Rattle.std.specs.Prelude.{◌≢◌, Result, Ok, Err, Option, Some, None, IfSome, if◌then◌else◌, option_and_then, unwrap_or}
use Rattle.std.specs.Option.{option_map_or}
use Rattle.eo_base.specs.declared.FaultName.{FaultName}
use Rattle.eo_base.specs.declared.FaultName.TheVariants.{BadPath, FileAbsent, NoReference, NoRefutation, ScopeOpen}
use Rattle.eo_base.specs.declared.Place.{Place}
use Rattle.eo_base.specs.Checks.{Checked}
use Rattle.eo_io.specs.Library.{Files, file_at}
use Rattle.eo_io.specs.Paths.{fold_path}
use Rattle.eo_sexp.specs.Texts.{first_spot, spot_after}
use Rattle.eo_proof.specs.Scopes.{has_false}
use Rattle.eo_session.specs.State.{State, begin_reference, end_fault, is_in_scope}
use Rattle.eo_run.specs.Seen.{Seen}
use Rattle.eo_run.specs.Run.{Progress, Stopped, Ran, ◌>>=◌, placed, or_fault, refusal_at, stopped_at, with_opened, seen_in, shown, commands_of, run_commands, run_reference, run_file, job_file, first_progress, first_load, if_given, run_signature, run_proof, run_job_reference, run_prelude, before_proof_after, run_check_after, run_check, run_load}
use Rattle.eo_run.specs.Check.{checked, ended, file_end, loaded, load_verdict}
use Rattle.eo_run.specs.Answer.{Answers, AnswerHasCause}
use Rattle.eo_run.specs.Opening.{opener_of, Told, StopsAs}
use Rattle.eo_run.specs.Judging.{run_named, run_job, run_after, counted, IfRun, EndsRun}
use Rattle.eo_session.specs.Origin.{Origin}
use Rattle.eo_session.specs.Origin as origin
use Rattle.eo_run.specs.declared.CheckJob.{CheckJob}
use Rattle.eo_run.specs.declared.Verdict.{Verdict}
use Rattle.eo_run.specs.declared.Verdict.TheVariants as answer

-- ---- where files are known

-- what holds of all files that are known holds of those
pub told-some : (told : Option Files) (P : Files → Type 0) → Told told P → IfSome told P
told-some None P h = tt
told-some (Some files) P h = h files refl

-- one part after another, in either order of brackets
then-assoc : {A B C : Type 0} (m : Result A Stopped) (f : A → Result B Stopped) (g : B → Result C Stopped) → ((m >>= f) >>= g) ≡ (m >>= λ x. f x >>= g)
unfolding ◌>>=◌
then-assoc (Ok x) f g = refl
then-assoc (Err stopped) f g = refl

-- ---- a file that the job names

module _ (files : Files) (name : List ℕ) (from : Origin) (wrapped : Bool) (opens : ℕ) (p : Progress) where
  abbrev run_found : List ℕ × List ℕ → Ran
  run_found file = run_commands (opener_of files opens) file.0 from (commands_of wrapped file.1) (counted wrapped p file.0)

  abbrev by_path : Option (List ℕ) → Ran
  by_path o =
      (or_fault p name first_spot BadPath o >>= λ path. or_fault p path first_spot FileAbsent (file_at files path) >>= λ bytes. Ok (path, bytes)) >>= run_found

  named-is : run_named files name from wrapped opens p ≡ by_path (fold_path [] name)
  unfolding job_file
  named-is = refl

  pub named-bad : fold_path [] name ≡ None → run_named files name from wrapped opens p ≡ Err (stopped_at p name first_spot BadPath)
  unfolding or_fault ◌>>=◌
  named-bad e = named-is ∙ ap by_path e

  module _ (path : List ℕ) (folds : fold_path [] name ≡ Some path) where
    abbrev by_bytes : Option (List ℕ) → Ran
    by_bytes o = (or_fault p path first_spot FileAbsent o >>= λ bytes. Ok (path, bytes)) >>= run_found

    folded-is : run_named files name from wrapped opens p ≡ by_bytes (file_at files path)
    unfolding or_fault ◌>>=◌
    folded-is = named-is ∙ ap by_path folds

    pub named-absent : file_at files path ≡ None → run_named files name from wrapped opens p ≡ Err (stopped_at p path first_spot FileAbsent)
    unfolding or_fault ◌>>=◌
    named-absent e = folded-is ∙ ap by_bytes e

    pub named-runs : (bytes : List ℕ) → file_at files path ≡ Some bytes → run_named files name from wrapped opens p ≡ run_found (path, bytes)
    unfolding or_fault ◌>>=◌
    named-runs bytes e = folded-is ∙ ap by_bytes e

-- the path that is shown, and the end
module _ (files : Files) (name path : List ℕ) (folds : fold_path [] name ≡ Some path) where
  pub shown-folded : shown name ≡ path
  shown-folded = ap (λ o. unwrap_or o name) folds

  pub end-folded : (bytes : List ℕ) → file_at files path ≡ Some bytes → file_end files name ≡ spot_after first_spot bytes
  end-folded bytes e =
      ap (λ o. option_map_or (spot_after first_spot) (option_and_then (file_at files) o) first_spot) folds
      ∙ ap (λ o. option_map_or (spot_after first_spot) o first_spot) e

-- ---- the parts of a job

module _ (files : Files) (name : List ℕ) (p : Progress) where
  pub signature-is : run_signature files name p ≡ run_named files name origin.Signature false 17 p
  unfolding run_signature run_file
  signature-is = refl

  pub proof-is : run_proof files name p ≡ run_named files name origin.Proof true 17 p
  unfolding run_proof run_file
  proof-is = refl

  abbrev reference_from : Checked State → Ran
  reference_from m = placed p (shown name) first_spot m >>= λ st. job_file files p name >>= λ file. run_commands (opener_of files 0) file.0 origin.Reference (commands_of false file.1) (record (with_opened p file.0) { state = st })

  reference-is : run_job_reference files name p ≡ reference_from (begin_reference p.state)
  unfolding run_job_reference run_reference
  reference-is = refl

  pub reference-second : (fault : FaultName) → begin_reference p.state ≡ Err fault → run_job_reference files name p ≡ Err (stopped_at p (shown name) first_spot fault)
  unfolding placed ◌>>=◌
  reference-second fault e = reference-is ∙ ap reference_from e

  -- what is found of a file does not depend on the state
  same-file : (st : State) (f : List ℕ × List ℕ → Ran) → (job_file files p name >>= f) ≡ (job_file files (record p { state = st }) name >>= f)
  unfolding job_file or_fault ◌>>=◌
  same-file st f = by-path (fold_path [] name)
    where
      found : Progress → Option (List ℕ) → Ran
      found q o = (or_fault q name first_spot BadPath o >>= λ path. or_fault q path first_spot FileAbsent (file_at files path) >>= λ bytes. Ok (path, bytes)) >>= f

      by-bytes : (path : List ℕ) (o : Option (List ℕ)) →
          ((or_fault p path first_spot FileAbsent o >>= λ bytes. Ok (path, bytes)) >>= f) ≡ ((or_fault (record p { state = st }) path first_spot FileAbsent o >>= λ bytes. Ok (path, bytes)) >>= f)
      by-bytes path (Some bytes) = refl
      by-bytes path None = refl

      by-path : (o : Option (List ℕ)) → found p o ≡ found (record p { state = st }) o
      by-path (Some path) = by-bytes path (file_at files path)
      by-path None = refl

  pub reference-begun : (st : State) → begin_reference p.state ≡ Ok st → run_job_reference files name p ≡ run_named files name origin.Reference false 0 (record p { state = st })
  unfolding placed ◌>>=◌
  reference-begun st e = reference-is ∙ ap reference_from e ∙ same-file st (λ file. run_commands (opener_of files 0) file.0 origin.Reference (commands_of false file.1) (record (with_opened p file.0) { state = st }))

-- ---- the verdict

-- a check is the run of its prelude and its job from the beginning
pub after-is : (files : Files) (prelude : Option (List ℕ)) (job : CheckJob) → run_check_after files prelude job ≡ run_after files prelude job (first_progress job)
unfolding run_check_after before_proof_after
after-is files prelude job = then-assoc (run_prelude files prelude (first_progress job)) (λ p. if_given (run_signature files) job.include p >>= if_given (run_job_reference files) job.reference) (run_proof files job.proof)

-- and without a prelude that of its job
pub check-is : (files : Files) (job : CheckJob) → run_check files job ≡ run_job files job (first_progress job)
unfolding run_check run_check_after before_proof_after run_prelude ◌>>=◌
check-is files job = refl

pub load-is : (files : Files) (name : List ℕ) → load_verdict files name ≡ loaded (run_load files name)
unfolding load_verdict
load-is files name = refl

pub load-runs-is : (files : Files) (name : List ℕ) → run_load files name ≡ run_signature files name (first_load name)
unfolding run_load
load-runs-is files name = refl

-- ---- results

module _ (files : Files) (name : List ℕ) (from : Origin) (ran : Ran) (new : Progress) (paths : List (List ℕ)) (place : Place) (h : EndsRun files name from ran new paths place) where
  module _ (none : end_fault new.state ≡ None) where
    pub ends-correct : new.state.sorry ≡ false → Answers paths answer.Correct (checked files name ran)
    ends-correct s = ap (checked files name) h.runs ∙ (λ i. ended files name (s i) (none i))

    pub ends-incomplete : new.state.sorry ≡ true → Answers paths answer.Incomplete (checked files name ran)
    ends-incomplete s = ap (checked files name) h.runs ∙ (λ i. ended files name (s i) (none i))

  pub ends-refused : from ≢ origin.Reference → (fault : FaultName) → Some fault ≡ end_fault new.state → Answers paths (answer.Refused (record { name = fault; place = place })) (checked files name ran)
  ends-refused other fault e =
      (refusal_at (shown name) (file_end files name) fault, ap (checked files name) h.runs ∙ ap (ended files name new.state.sorry) (sym e), record { name = refl; file = h.file; line = h.line other; offset = h.offset other })

  pub ends-loaded : Answers paths (answer.Loaded new.state.commands) (loaded ran)
  ends-loaded = ap loaded h.runs

-- the result for a run that stops is the verdict, and what was accepted before is seen
pub stops-checked : (files : Files) (name : List ℕ) (ran : Ran) (H : List Seen → Type 0) (paths : List (List ℕ)) (v : Verdict) → StopsAs (λ stopped. ran ≡ Err stopped) H paths v → Answers paths v (checked files name ran) × IfRun v (H (seen_in ran))
stops-checked files name ran H paths answer.Correct h = absurd h
stops-checked files name ran H paths answer.Incomplete h = absurd h
stops-checked files name ran H paths (answer.Loaded commands) h = absurd h
stops-checked files name ran H paths (answer.Refused fault) h = ((h.0.refusal, ap (checked files name) h.1, h.2), subst H (ap seen_in (sym h.1)) h.3)
stops-checked files name ran H paths answer.ReadFault h = (tt, tt)
stops-checked files name ran H paths answer.OutOfMemory h = (tt, tt)

pub stops-loaded : (ran : Ran) (H : List Seen → Type 0) (paths : List (List ℕ)) (v : Verdict) → StopsAs (λ stopped. ran ≡ Err stopped) H paths v → Answers paths v (loaded ran)
stops-loaded ran H paths answer.Correct h = absurd h
stops-loaded ran H paths answer.Incomplete h = absurd h
stops-loaded ran H paths (answer.Loaded commands) h = absurd h
stops-loaded ran H paths (answer.Refused fault) h = (h.0.refusal, ap loaded h.1, h.2)
stops-loaded ran H paths answer.ReadFault h = tt
stops-loaded ran H paths answer.OutOfMemory h = tt

-- the end of a proof is no absent file
pub end-present : (st : State) (name : FaultName) → Some name ≡ end_fault st → name ≡ FileAbsent → ⊥
unfolding end_fault
end-present st name e a = by (is_in_scope st) st.has_reference (has_false st.scopes) e
  where
    by : (o r b : Bool) → Some name ≡ (if o then Some ScopeOpen else (if not r then Some NoReference else (if not b then Some NoRefutation else None))) → ⊥
    by true r b h = absurd cc
    by false true true h = absurd cc
    by false true false h = absurd cc
    by false false b h = absurd cc

pub end-cause : (told : Option Files) (st : State) (name : FaultName) (place : Place) (b n : ℕ) → Some name ≡ end_fault st → AnswerHasCause (answer.Refused (record { name = name; place = place })) told b n
end-cause None st name place b n e = λ a. absurd (end-present st name e a)
end-cause (Some f) st name place b n e = tt
