-- How a check ends.
use Rattle.std.proofs.Common.{◌≡◌, refl, ℕ, Bool, true, false, not, List, [], ◌∷◌, Option, None, Some, sym, ap, subst, ◌∙◌, append-nil, arith}
use Rattle.std.proofs.lemmas.Option.{slice_get_within}
use Rattle.std.specs.Prelude.{Ok, IsSome, ◌<◌, ◌≤◌, length, slice_get, is_some, find, option_map, ◌||◌, if◌then◌else◌}
use Rattle.std.specs.List.{list_any}
use Rattle.eo_base.specs.declared.FaultName.TheVariants.{NoReference, NoRefutation, ScopeOpen}
use Rattle.eo_io.specs.Library.{Files}
use Rattle.eo_io.specs.Paths.{Extends}
use Rattle.eo_proof.specs.Scopes.{Fact, Scopes, has_false, first_false}
use Rattle.eo_session.specs.Notes as notes
use Rattle.eo_session.specs.State.{State, end_fault, is_in_scope}
use Rattle.eo_term.specs.Tree.{tree_eq, truth}
use Rattle.eo_run.specs.Answer.{AnswerHasCause}
use Rattle.eo_run.specs.Ending.{IfCorrect, IsRefutation, RefutesJob, IsCheckEnd, KnownAtEnd, LeavesLast, verdict_of}
use Rattle.eo_run.specs.Check.{verdict}
use Rattle.eo_run.specs.Judging.{run_after, IsCheckAnswer, AnswersJob}
use Rattle.eo_run.specs.Opening.{IsStop}
use Rattle.eo_run.specs.Progress.{Point, progress_at, SeesAt}
use Rattle.eo_run.specs.Refutation.{Refutes, CorrectRefutes}
use Rattle.eo_run.specs.Run.{Progress, Ran, first_progress, run_check_after}
use Rattle.eo_run.specs.Verdict.{Correct}
use Rattle.eo_run.specs.declared.CheckEnd.{CheckEnd}
use Rattle.eo_run.specs.declared.CheckEnd.TheVariants as ends
use Rattle.eo_run.specs.declared.CheckJob.{CheckJob}
use Rattle.eo_run.specs.declared.Verdict.{Verdict}
use Rattle.eo_run.specs.declared.Verdict.TheVariants as answer
use Rattle.eo_run.proofs.Files.{told-some, after-is}
use Rattle.eo_run.proofs.Taking.{cause-grows, extends-trans}

-- ---- tables of paths

pub extends-same : (paths : List (List ℕ)) → Extends paths paths
extends-same paths = ([], sym (append-nil paths))

-- a number of one of the paths
pub placed-within : (paths : List (List ℕ)) (n : ℕ) → IsSome (slice_get paths n) → n < length paths
placed-within paths n h = by (slice_get paths n) refl h
  where
    by : (o : Option (List ℕ)) → slice_get paths n ≡ o → IsSome o → n < length paths
    by (Some path) e there = slice_get_within paths n path e
    by None e there = absurd cc

-- ---- a proof that is correct

-- it has a first `false`
some-find : {A : Type 0} (p : A → Bool) (xs : List A) → is_some (find p xs) ≡ list_any p xs
some-find p [] = refl
some-find p (x ∷ xs) = by (p x) (some-find p xs)
  where
    by : (b : Bool) → is_some (find p xs) ≡ list_any p xs → is_some (if b then Some x else find p xs) ≡ (b || list_any p xs)
    by true h = refl
    by false h = h

none-false : (f : Scopes) → first_false f ≡ None → has_false f ≡ false
none-false f e = sym (some-find (λ fact. tree_eq fact.formula (truth false)) f.outermost) ∙ none (find (λ fact. tree_eq fact.formula (truth false)) f.outermost) e
  where
    none : (o : Option Fact) → option_map (λ fact. fact.number) o ≡ None → is_some o ≡ false
    none None h = refl
    none (Some fact) h = absurd cc

pub refuted-some : (st : State) → end_fault st ≡ None → first_false st.scopes ≡ None → ⊥
unfolding end_fault
refuted-some st e f = by (is_in_scope st) st.has_reference (has_false st.scopes) (none-false st.scopes f) e
  where
    by : (o r b : Bool) → b ≡ false → (if o then Some ScopeOpen else (if not r then Some NoReference else (if not b then Some NoRefutation else None))) ≡ None → ⊥
    by true r b k h = absurd cc
    by false false b k h = absurd cc
    by false true true k h = absurd cc
    by false true false k h = absurd cc

-- the refutation of a check is that of its run
pub whole-refutes : {O : Type 0} (tells : O → List notes.Seen → Type 0) (told : Option Files) (prelude : Option (List ℕ)) (job : CheckJob) (old new : Point O) → progress_at old [] ≡ first_progress job → SeesAt tells old [] → (e : CheckEnd)
    → LeavesLast tells told job.proof (λ files. run_after files prelude job) e old new → RefutesJob told prelude job new.paths e
whole-refutes tells told prelude job old new begins none (ends.Correct r) h =
    told-some told (λ files. (final : Progress) × (run_check_after files prelude job ≡ Ok final) × IsRefutation files job.proof new.paths final r)
    (λ files k. let b = h.runs files k [] none in (progress_at new b.0, after-is files prelude job ∙ ap (run_after files prelude job) (sym begins) ∙ b.2, b.3))
whole-refutes tells told prelude job old new begins none (ends.Ended v) h = tt

-- the session goes on at the end of a correct one
pub last-going : {O : Type 0} (tells : O → List notes.Seen → Type 0) (told : Option Files) (proof : List ℕ) (run : Files → Progress → Ran) (e : CheckEnd) (old new : Point O) → LeavesLast tells told proof run e old new → IfCorrect e (new.run.session.ended ≡ false)
last-going tells told proof run (ends.Correct r) old new h = h.going
last-going tells told proof run (ends.Ended v) old new h = tt

-- it refutes what was asserted
pub correct-sound : (told : Option Files) (job : CheckJob) (paths : List (List ℕ)) → ((files : Files) (job : CheckJob) → verdict files job ≡ Correct → Refutes files job) → AnswersJob told job paths answer.Correct → CorrectRefutes told job answer.Correct
correct-sound None job paths law h = λ e. tt
correct-sound (Some files) job paths law h = λ e. law files job h

-- ---- one that is not

pub ended-sound : (told : Option Files) (job : CheckJob) (paths : List (List ℕ)) (v : Verdict) → IsCheckEnd paths (ends.Ended v) → CorrectRefutes told job v
ended-sound told job paths v h = λ e. absurd (subst (λ (w : Verdict). IsCheckEnd paths (ends.Ended w)) e h)

stop-end : (paths : List (List ℕ)) (v : Verdict) → IsStop paths v → IsCheckEnd paths (ends.Ended v)
stop-end paths answer.Correct h = absurd h
stop-end paths answer.Incomplete h = absurd h
stop-end paths (answer.Loaded commands) h = absurd h
stop-end paths (answer.Refused fault) h = h
stop-end paths answer.ReadFault h = tt
stop-end paths answer.OutOfMemory h = tt

pub ended-answer : (paths : List (List ℕ)) (v : Verdict) → IsCheckEnd paths (ends.Ended v) → IsCheckAnswer paths v
ended-answer paths answer.Correct h = absurd h
ended-answer paths answer.Incomplete h = tt
ended-answer paths (answer.Loaded commands) h = absurd h
ended-answer paths (answer.Refused fault) h = h
ended-answer paths answer.ReadFault h = tt
ended-answer paths answer.OutOfMemory h = tt

-- ---- what is known of an end

-- of a part that comes after another one
pub end-later : {F : Type 0} (told later : Option F) → later ≡ told → (a b n : ℕ) → a ≤ b → (old mid new : List (List ℕ)) (e : CheckEnd) → Extends old mid → KnownAtEnd later b n mid new e → KnownAtEnd told a n old new e
end-later {F} told later same a b n le old mid new e grows known = record {
  cause = cause-grows told (verdict_of e) a b n n le (omega arith) (subst (λ (o : Option F). AnswerHasCause (verdict_of e) o b n) same known.cause);
  kind = known.kind;
  grows = extends-trans old mid new grows known.grows;
}

-- of a part that stops
pub end-stops : {F : Type 0} (told : Option F) (a n : ℕ) (old new : List (List ℕ)) (v : Verdict) → AnswerHasCause v told a n → IsStop new v → Extends old new → KnownAtEnd told a n old new (ends.Ended v)
end-stops told a n old new v cause stop grows = record { cause = cause; kind = stop-end new v stop; grows = grows }
