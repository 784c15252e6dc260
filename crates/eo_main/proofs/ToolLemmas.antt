-- How a run ends that trims a proof, or proves that assertions have no model.
use Rattle.std.proofs.Common.{◌≡◌, ◌≢◌, ℕ, false, List, Option, None, Some, refl, sym, ◌∙◌, ap, subst, arith}
use Rattle.std.specs.Prelude.{codes, ⊤}
use Rattle.eo_base.specs.Causes.{Rose}
use Rattle.eo_base.specs.declared.Status.{Status}
use Rattle.eo_base.specs.declared.Status.TheVariants as status
use Rattle.eo_io.specs.Library.{Files}
use Rattle.eo_io.specs.Sink.{Adds}
use Rattle.eo_run.specs.Answer.{Answers, AnswerHasCause, answer_due, WritesDue}
use Rattle.eo_run.specs.Judging.{IfRun}
use Rattle.eo_run.specs.Printed.{Due, line, verdict_due}
use Rattle.eo_run.specs.Verdict as verdict
use Rattle.eo_run.specs.declared.CheckJob.{CheckJob}
use Rattle.eo_run.specs.declared.Verdict.{Verdict}
use Rattle.eo_run.specs.declared.Verdict.TheVariants as answer
use Rattle.eo_sem.specs.ProveAnswers.{AnswersProve, IsProveAnswer, ProveHasCause, ValidRefutes}
use Rattle.eo_sem.specs.Proving as proving
use Rattle.eo_sem.specs.declared.ProveEnd.{ProveEnd}
use Rattle.eo_sem.specs.declared.ProveEnd.TheVariants as proved
use Rattle.eo_trim.specs.Trim as trimming
use Rattle.eo_trim.specs.TrimAnswers.{AnswersTrim, IsTrimAnswer, TrimHasCause, TrimmedStays}
use Rattle.eo_trim.specs.declared.TrimEnd.{TrimEnd}
use Rattle.eo_trim.specs.declared.TrimEnd.TheVariants as trimmed
use Rattle.eo_main.specs.Ends.{Ends, EndHasCause, AbsentHasCause}
use Rattle.eo_main.specs.Program.{due, may_write_proof, EndsAs, OkLeavesNoModel, OkShortens}
use Rattle.eo_main.specs.Proving.{prove_due}
use Rattle.eo_main.specs.ToolAnswers.{trim_answer_due, prove_answer_due, LeavesNoModel, WritesShorter}
use Rattle.eo_main.specs.Trimming.{trim_due}
use Rattle.eo_main.specs.declared.Request.{Request}
use Rattle.eo_main.specs.declared.Request.TheVariants.{Trim, Prove}
use Rattle.eo_main.proofs.AbsentLemmas.{absent_by_answer, absent_by_letter}
use Rattle.eo_main.proofs.EndLemmas.{answer_ends, read_fault_ends, out_of_memory_ends, end_has_cause, no_usage}
use Rattle.eo_main.proofs.TextLemmas.{text_ends, text_has_cause, text_no_usage, text_not_refused}

abbrev valid_line : List ℕ
valid_line = line (codes "valid")

module _ (paths : List (List ℕ)) (s : Status) (w x : Option (List ℕ)) (before now : ℕ) where
  -- ---- a verdict that stays, of what is said of the files

  module _ {A : Type 0} (due_of : A → Due) (other : verdict.Verdict → A) (fits : (of : verdict.Verdict) → due_of (other of) ≡ verdict_due of) (said : A) where
    said_ends : (told : Option Files) (v : Verdict) (of : verdict.Verdict) → said ≡ other of → Answers paths v of → AnswerHasCause v told before now → WritesDue s (answer_due paths v) w x → Ends (Rose before now) s (due_of said) w x
    said_ends told v of is a cause writes =
        subst (λ (d : Due). Ends (Rose before now) s d w x) (sym (ap due_of is ∙ fits of)) (answer_ends told before now paths v of s w x a cause writes)

    other_ends : (told : Option Files) (v : Verdict) → IfRun v ((of : verdict.Verdict) × (said ≡ other of) × Answers paths v of) → AnswerHasCause v told before now → WritesDue s (answer_due paths v) w x → Ends (Rose before now) s (due_of said) w x
    unfolding answer_due
    other_ends told answer.ReadFault a cause writes = read_fault_ends (Rose before now) s (due_of said) w x cause writes
    other_ends told answer.OutOfMemory a cause writes = out_of_memory_ends (Rose before now) s (due_of said) w x writes
    other_ends told answer.Correct a cause writes = said_ends told answer.Correct a.0 a.1 a.2 cause writes
    other_ends told answer.Incomplete a cause writes = said_ends told answer.Incomplete a.0 a.1 a.2 cause writes
    other_ends told (answer.Loaded commands) a cause writes = said_ends told (answer.Loaded commands) a.0 a.1 a.2 cause writes
    other_ends told (answer.Refused fault) a cause writes = said_ends told (answer.Refused fault) a.0 a.1 a.2 cause writes

  -- ---- a proof that is trimmed

  pub trim_ends : (told : Option Files) (job : CheckJob) (r : TrimEnd) → AnswersTrim told job paths r → TrimHasCause r told before now → WritesDue s (trim_answer_due paths r) w x
      → EndsAs (Rose before now) told s (Some (Trim job)) w x
  unfolding due
  trim_ends None job r a cause writes = tt
  trim_ends (Some files) job (trimmed.Trimmed bytes) a cause writes =
      subst (λ (said : trimming.TrimEnd). Ends (Rose before now) s (trim_due said) w x) (sym a) (text_ends (Rose before now) s bytes w x writes)
  trim_ends (Some files) job (trimmed.Other v) a cause writes = other_ends trim_due trimming.Other (λ of. refl) (trimming.trim files job) (Some files) v a cause writes

  pub trim_cause : (told : Option Files) (r : TrimEnd) (sink_before sink_now : ℕ) → WritesDue s (trim_answer_due paths r) w x → TrimHasCause r told before now
      → (s ≡ status.WriteFault → Rose sink_before sink_now) → EndHasCause s before now sink_before sink_now
  trim_cause told (trimmed.Trimmed bytes) sink_before sink_now writes cause written = text_has_cause s bytes w x before now sink_before sink_now writes written
  trim_cause told (trimmed.Other v) sink_before sink_now writes cause written = end_has_cause told paths v s w x before now sink_before sink_now writes cause written

  pub trim_no_usage : (r : TrimEnd) → WritesDue s (trim_answer_due paths r) w x → s ≢ status.Usage
  trim_no_usage (trimmed.Trimmed bytes) writes = text_no_usage s bytes w x writes
  trim_no_usage (trimmed.Other v) writes = no_usage paths v s w x writes

  pub trim_absent : (told : Option Files) (r : TrimEnd) → WritesDue s (trim_answer_due paths r) w x → TrimHasCause r told before now → s ≡ status.Refused → AbsentHasCause told w x before now
  trim_absent told (trimmed.Trimmed bytes) writes cause refused = absurd (text_not_refused s bytes w x writes refused)
  trim_absent told (trimmed.Other v) writes cause refused = absent_by_answer told paths v s w x before now writes cause

  -- ---- a proof that assertions have no model

  pub prove_ends : (told : Option Files) (reference proof : List ℕ) (r : ProveEnd) → AnswersProve told reference proof paths r → ProveHasCause r told before now → WritesDue s (prove_answer_due paths r) w x
      → EndsAs (Rose before now) told s (Some (Prove reference proof)) w x
  unfolding due
  prove_ends None reference proof r a cause writes = tt
  prove_ends (Some files) reference proof proved.Valid a cause writes =
      subst (λ (said : proving.ProveVerdict). Ends (Rose before now) s (prove_due said) w x) (sym a) (text_ends (Rose before now) s valid_line w x writes)
  prove_ends (Some files) reference proof (proved.Other v) a cause writes =
      other_ends prove_due proving.Other (λ of. refl) (proving.prove files reference proof) (Some files) v a cause writes

  pub prove_cause : (told : Option Files) (r : ProveEnd) (sink_before sink_now : ℕ) → WritesDue s (prove_answer_due paths r) w x → ProveHasCause r told before now
      → (s ≡ status.WriteFault → Rose sink_before sink_now) → EndHasCause s before now sink_before sink_now
  prove_cause told proved.Valid sink_before sink_now writes cause written = text_has_cause s valid_line w x before now sink_before sink_now writes written
  prove_cause told (proved.Other v) sink_before sink_now writes cause written = end_has_cause told paths v s w x before now sink_before sink_now writes cause written

  pub prove_no_usage : (r : ProveEnd) → WritesDue s (prove_answer_due paths r) w x → s ≢ status.Usage
  prove_no_usage proved.Valid writes = text_no_usage s valid_line w x writes
  prove_no_usage (proved.Other v) writes = no_usage paths v s w x writes

  pub prove_absent : (told : Option Files) (r : ProveEnd) → WritesDue s (prove_answer_due paths r) w x → ProveHasCause r told before now → AbsentHasCause told w x before now
  prove_absent told proved.Valid writes cause = absent_by_letter told 118 _ s status.Ok w x before now (omega arith) writes
  prove_absent told (proved.Other v) writes cause = absent_by_answer told paths v s w x before now writes cause

  -- ---- with status 0

  no_ok : (v : Verdict) → IsProveAnswer paths (proved.Other v) → (answer_due paths v).status ≢ status.Ok
  unfolding answer_due
  no_ok answer.Correct kind = absurd kind
  no_ok answer.Incomplete kind = λ q. cc
  no_ok (answer.Loaded commands) kind = absurd kind
  no_ok (answer.Refused fault) kind = λ q. cc
  no_ok answer.ReadFault kind = λ q. cc
  no_ok answer.OutOfMemory kind = λ q. cc

  status_is : (t : Status) (d : Due) → WritesDue t d w x → t ≡ status.Ok → d.status ≡ status.Ok
  status_is status.Ok d h e = sym h.0
  status_is status.Incomplete d h e = cc
  status_is status.Refused d h e = cc
  status_is status.Usage d h e = cc
  status_is status.ReadFault d h e = cc
  status_is status.OutOfMemory d h e = cc
  status_is status.WriteFault d h e = cc

  adds_all : (t : Status) (d : Due) → WritesDue t d w x → t ≡ status.Ok → Adds d.text w x
  adds_all status.Ok d h e = h.1
  adds_all status.Incomplete d h e = cc
  adds_all status.Refused d h e = cc
  adds_all status.Usage d h e = cc
  adds_all status.ReadFault d h e = cc
  adds_all status.OutOfMemory d h e = cc
  adds_all status.WriteFault d h e = cc

  other_kind : (v : Verdict) → IsTrimAnswer paths (trimmed.Other v) → IsProveAnswer paths (proved.Other v)
  other_kind answer.Correct kind = kind
  other_kind answer.Incomplete kind = kind
  other_kind (answer.Loaded commands) kind = kind
  other_kind (answer.Refused fault) kind = kind
  other_kind answer.ReadFault kind = kind
  other_kind answer.OutOfMemory kind = kind

  -- it is a trimmed proof, which stays correct
  pub ok_shortens : (told : Option Files) (job : CheckJob) (r : TrimEnd) → TrimmedStays told job r → IsTrimAnswer paths r → WritesDue s (trim_answer_due paths r) w x → WritesShorter told s job w x
  ok_shortens None job r shorter kind writes ok = tt
  ok_shortens (Some files) job (trimmed.Trimmed bytes) shorter kind writes ok = (bytes, adds_all s (trim_answer_due paths (trimmed.Trimmed bytes)) writes ok, shorter)
  ok_shortens (Some files) job (trimmed.Other v) shorter kind writes ok = absurd (no_ok v (other_kind v kind) (status_is s (answer_due paths v) writes ok))

  -- it is `valid`, and no valuation makes the assertions true
  pub ok_leaves_none : (told : Option Files) (reference proof : List ℕ) (r : ProveEnd) → ValidRefutes told reference proof r → IsProveAnswer paths r → WritesDue s (prove_answer_due paths r) w x → LeavesNoModel told s reference proof
  ok_leaves_none None reference proof r sound kind writes ok = tt
  ok_leaves_none (Some files) reference proof proved.Valid sound kind writes ok = sound.1
  ok_leaves_none (Some files) reference proof (proved.Other v) sound kind writes ok = absurd (no_ok v kind (status_is s (answer_due paths v) writes ok))

-- ---- the words

-- words that ask for a trimmed proof
pub trim_says : (A : Type 0) (s : Status) (job : CheckJob) (reading : Option Request) → Some (Trim job) ≡ reading → (s ≡ status.Refused → A) → may_write_proof s reading ≡ false → A
trim_says A s job reading e refused other = by s refused (ap (may_write_proof s) e ∙ other)
  where
    by : (s : Status) → (s ≡ status.Refused → A) → may_write_proof s (Some (Trim job)) ≡ false → A
    by status.Ok refused q = cc
    by status.Incomplete refused q = cc
    by status.Refused refused q = refused refl
    by status.Usage refused q = cc
    by status.ReadFault refused q = cc
    by status.WriteFault refused q = cc
    by status.OutOfMemory refused q = cc

pub trim_shortens : (told : Option Files) (s : Status) (job : CheckJob) (reading : Option Request) (w x : Option (List ℕ)) → Some (Trim job) ≡ reading → WritesShorter told s job w x → OkShortens told s reading w x
trim_shortens told s job reading w x e h = λ other is. subst Writes (e ∙ is) h
  where
    Writes : Option Request → Type 0
    Writes (Some (Trim j)) = WritesShorter told s j w x
    Writes o = ⊤

-- words that ask for a proof of validity
pub prove_says : (told : Option Files) (s : Status) (reference proof : List ℕ) (reading : Option Request) → Some (Prove reference proof) ≡ reading → LeavesNoModel told s reference proof → OkLeavesNoModel told s reading
prove_says told s reference proof reading e h = λ r p is. subst Leaves (e ∙ is) h
  where
    Leaves : Option Request → Type 0
    Leaves (Some (Prove r p)) = LeavesNoModel told s r p
    Leaves o = ⊤
