-- How a run ends, by the answer of its check.
use Rattle.std.proofs.Common.{◌≡◌, ◌≢◌, ℕ, true, false, List, [], Option, None, Some, refl, sym, ◌∙◌, ap, subst, inl, inr}
use Rattle.std.specs.Prelude.{slice_get, unwrap_or}
use Rattle.eo_base.specs.Causes.{Rose}
use Rattle.eo_base.specs.declared.Fault.{Fault}
use Rattle.eo_base.specs.declared.Status.{Status}
use Rattle.eo_base.specs.declared.Status.TheVariants as status
use Rattle.eo_io.specs.Library.{Files}
use Rattle.eo_run.specs.Verdict as verdict
use Rattle.eo_run.specs.Printed.{Due, verdict_due, verdict_status, usage_due, read_fault_due, out_of_memory_due}
use Rattle.eo_run.specs.Answer.{Denotes, Answers, AnswerHasCause, answer_due, refusal_of, WritesDue}
use Rattle.eo_run.specs.Bench.{bench_files, bench_job}
use Rattle.eo_run.specs.Benching.{AnswersBench, IsOtherEnd, end_due}
use Rattle.eo_run.specs.Check.{verdict as check_verdict, load_verdict}
use Rattle.eo_run.specs.Judging.{AnswersJob, AnswersLoad}
use Rattle.eo_run.specs.Pieces.{counts_due}
use Rattle.eo_session.specs.Roots.{live_count}
use Rattle.eo_run.specs.declared.BenchEnd.{BenchEnd}
use Rattle.eo_run.specs.declared.BenchEnd.TheVariants as ends
use Rattle.eo_run.specs.declared.Verdict.{Verdict}
use Rattle.eo_run.specs.declared.Verdict.TheVariants as answer
use Rattle.eo_main.specs.Ends.{Ends, EndHasCause, EndsInFull, UsageFits}
use Rattle.eo_main.specs.Program.{due, correct_bench, judged_bench, bench_due, needs_no_files, is_bench, EndsAs, Completes}
use Rattle.eo_main.specs.declared.Request.{Request}
use Rattle.eo_main.specs.declared.Request.TheVariants.{Check, Load, Bench}
use Rattle.eo_run.specs.declared.CheckJob.{CheckJob}

-- the status of a verdict is none of a fault of the outside
no_fault_status : (v : verdict.Verdict) → (verdict_status v ≢ status.ReadFault) × (verdict_status v ≢ status.OutOfMemory) × (verdict_status v ≢ status.Usage)
no_fault_status verdict.Correct = (λ e. cc, λ e. cc, λ e. cc)
no_fault_status verdict.Incomplete = (λ e. cc, λ e. cc, λ e. cc)
no_fault_status (verdict.Loaded n) = (λ e. cc, λ e. cc, λ e. cc)
no_fault_status (verdict.Refused r) = (λ e. cc, λ e. cc, λ e. cc)

-- the line of a verdict
pub verdict_ends : (F : Type 0) (s : Status) (v : verdict.Verdict) (w x : Option (List ℕ)) → WritesDue s (verdict_due v) w x → Ends F s (verdict_due v) w x
verdict_ends F status.Ok v w x h = h
verdict_ends F status.Incomplete v w x h = h
verdict_ends F status.Refused v w x h = h
verdict_ends F status.Usage v w x h = h
verdict_ends F status.ReadFault v w x h = absurd ((no_fault_status v).0 (sym h.0))
verdict_ends F status.OutOfMemory v w x h = absurd ((no_fault_status v).1 (sym h.0))
verdict_ends F status.WriteFault v w x h = inl h

-- the usage line
pub usage_ends : (F : Type 0) (s : Status) (w x : Option (List ℕ)) → WritesDue s usage_due w x → Ends F s usage_due w x
usage_ends F status.Ok w x h = h
usage_ends F status.Incomplete w x h = h
usage_ends F status.Refused w x h = h
usage_ends F status.Usage w x h = h
usage_ends F status.ReadFault w x h = cc
usage_ends F status.OutOfMemory w x h = cc
usage_ends F status.WriteFault w x h = inl h

-- the line for a fault of reading, whatever else was due
pub read_fault_ends : (F : Type 0) (s : Status) (due : Due) (w x : Option (List ℕ)) → F → WritesDue s read_fault_due w x → Ends F s due w x
read_fault_ends F status.Ok due w x failed h = cc
read_fault_ends F status.Incomplete due w x failed h = cc
read_fault_ends F status.Refused due w x failed h = cc
read_fault_ends F status.Usage due w x failed h = cc
read_fault_ends F status.OutOfMemory due w x failed h = cc
read_fault_ends F status.ReadFault due w x failed h = (failed, h.1)
read_fault_ends F status.WriteFault due w x failed h = inr (inl (failed, h))

-- the line for being out of memory, whatever else was due
pub out_of_memory_ends : (F : Type 0) (s : Status) (due : Due) (w x : Option (List ℕ)) → WritesDue s out_of_memory_due w x → Ends F s due w x
out_of_memory_ends F status.Ok due w x h = cc
out_of_memory_ends F status.Incomplete due w x h = cc
out_of_memory_ends F status.Refused due w x h = cc
out_of_memory_ends F status.Usage due w x h = cc
out_of_memory_ends F status.ReadFault due w x h = cc
out_of_memory_ends F status.OutOfMemory due w x h = h.1
out_of_memory_ends F status.WriteFault due w x h = inr (inr h)

same_refusal : (paths : List (List ℕ)) (fault : Fault) (r : verdict.Refusal) → Denotes paths fault r → refusal_of paths fault ≡ r
same_refusal paths fault r d =
    let file : unwrap_or (slice_get paths fault.place.file) [] ≡ r.file = ap (λ o. unwrap_or o []) d.file in
    ap (λ n. record { name = n; file = unwrap_or (slice_get paths fault.place.file) []; line = fault.place.line; offset = fault.place.offset }) d.name
    ∙ ap (λ f. record { name = r.name; file = f; line = fault.place.line; offset = fault.place.offset }) file
    ∙ ap (λ l. record { name = r.name; file = r.file; line = l; offset = fault.place.offset }) d.line ∙ ap (λ o. record { name = r.name; file = r.file; line = r.line; offset = o }) d.offset

of_verdict : (F : Type 0) (s : Status) (u v : verdict.Verdict) (w x : Option (List ℕ)) → v ≡ u → WritesDue s (verdict_due u) w x → Ends F s (verdict_due v) w x
of_verdict F s u v w x e h = verdict_ends F s v w x (subst (λ (u : verdict.Verdict). WritesDue s (verdict_due u) w x) (sym e) h)

-- the line of a refusal
pub refused_ends : (F : Type 0) (paths : List (List ℕ)) (fault : Fault) (v : verdict.Verdict) (s : Status) (w x : Option (List ℕ))
    → Answers paths (answer.Refused fault) v → WritesDue s (answer_due paths (answer.Refused fault)) w x → Ends F s (verdict_due v) w x
unfolding answer_due
refused_ends F paths fault v s w x (r, e, d) h = of_verdict F s (verdict.Refused (refusal_of paths fault)) v w x (e ∙ ap (λ (r : verdict.Refusal). verdict.Refused r) (sym (same_refusal paths fault r d))) h

-- the line of an answer to a check with this verdict
pub answer_ends : {T : Type 0} (told : Option T) (before now : ℕ) (paths : List (List ℕ)) (a : Verdict) (v : verdict.Verdict) (s : Status) (w x : Option (List ℕ))
    → Answers paths a v → AnswerHasCause a told before now → WritesDue s (answer_due paths a) w x → Ends (Rose before now) s (verdict_due v) w x
unfolding answer_due
answer_ends told before now paths answer.Correct v s w x e c h = of_verdict (Rose before now) s verdict.Correct v w x e h
answer_ends told before now paths answer.Incomplete v s w x e c h = of_verdict (Rose before now) s verdict.Incomplete v w x e h
answer_ends told before now paths (answer.Loaded n) v s w x e c h = of_verdict (Rose before now) s (verdict.Loaded n) v w x e h
answer_ends told before now paths (answer.Refused fault) v s w x e c h = refused_ends (Rose before now) paths fault v s w x e h
answer_ends told before now paths answer.ReadFault v s w x e c h = read_fault_ends (Rose before now) s (verdict_due v) w x c h
answer_ends told before now paths answer.OutOfMemory v s w x e c h = out_of_memory_ends (Rose before now) s (verdict_due v) w x h

-- the line of the answer to a check, and to a load
module _ (paths : List (List ℕ)) (a : Verdict) (s : Status) (w x : Option (List ℕ)) (before now : ℕ) where
  pub check_ends : (told : Option Files) (job : CheckJob) → AnswersJob told job paths a → AnswerHasCause a told before now → WritesDue s (answer_due paths a) w x
      → EndsAs (Rose before now) told s (Some (Check job)) w x
  unfolding due
  check_ends None job h cause writes = tt
  check_ends (Some files) job h cause writes = answer_ends (Some files) before now paths a (check_verdict files job) s w x h cause writes

  pub load_ends : (told : Option Files) (file : List ℕ) → AnswersLoad told file paths a → AnswerHasCause a told before now → WritesDue s (answer_due paths a) w x
      → EndsAs (Rose before now) told s (Some (Load file)) w x
  unfolding due
  load_ends None file h cause writes = tt
  load_ends (Some files) file h cause writes = answer_ends (Some files) before now paths a (load_verdict files file) s w x h cause writes

-- ---- a bench

-- what is due for it, by its verdict
bench_is : (n : ℕ) (v : verdict.Verdict) → check_verdict (bench_files n) bench_job ≡ v → bench_due n ≡ judged_bench n v
unfolding bench_due
bench_is n v e = ap (judged_bench n) e

-- the line of a correct one
counts_ends : (s : Status) (n commands terms : ℕ) (w x : Option (List ℕ)) → WritesDue s (counts_due n commands terms) w x → Ends ⊥ s (counts_due n commands terms) w x
unfolding counts_due
counts_ends status.Ok n commands terms w x h = h
counts_ends status.Incomplete n commands terms w x h = h
counts_ends status.Refused n commands terms w x h = h
counts_ends status.Usage n commands terms w x h = h
counts_ends status.ReadFault n commands terms w x h = cc
counts_ends status.OutOfMemory n commands terms w x h = cc
counts_ends status.WriteFault n commands terms w x h = inl h

module _ (n : ℕ) (paths : List (List ℕ)) (s : Status) (w x : Option (List ℕ)) where
  ends_by : (v : verdict.Verdict) (d : Due) → check_verdict (bench_files n) bench_job ≡ v → judged_bench n v ≡ d → Ends ⊥ s d w x → Ends ⊥ s (bench_due n) w x
  ends_by v d e is h = subst (λ (d : Due). Ends ⊥ s d w x) (sym (bench_is n v e ∙ is)) h

  other_ends : (v : Verdict) → Answers paths v (check_verdict (bench_files n) bench_job) → IsOtherEnd paths v → WritesDue s (answer_due paths v) w x → Ends ⊥ s (bench_due n) w x
  unfolding answer_due
  other_ends answer.Correct a other h = absurd other
  other_ends answer.Incomplete a other h = ends_by verdict.Incomplete (verdict_due verdict.Incomplete) a refl (verdict_ends ⊥ s verdict.Incomplete w x h)
  other_ends (answer.Loaded commands) a other h = absurd other
  other_ends (answer.Refused fault) a other h = ends_by (verdict.Refused a.0) (verdict_due (verdict.Refused a.0)) a.1 refl (refused_ends ⊥ paths fault (verdict.Refused a.0) s w x (a.0, refl, a.2) h)
  other_ends answer.ReadFault a other h = absurd other
  other_ends answer.OutOfMemory a other h = out_of_memory_ends ⊥ s (bench_due n) w x h

  -- the line of the answer to a bench
  pub bench_ends : (e : BenchEnd) → AnswersBench (bench_files n) bench_job paths e → WritesDue s (end_due n paths e) w x → Ends ⊥ s (bench_due n) w x
  unfolding end_due counts_due
  bench_ends (ends.Correct commands terms) a h =
      ends_by verdict.Correct (counts_due n commands terms) a.correct (counts_is commands terms a.accepted a.alive) (counts_ends s n commands terms w x h)
    where
      counts_is : (c t : ℕ) → c ≡ a.last.state.commands → t ≡ live_count a.last.state → judged_bench n verdict.Correct ≡ counts_due n c t
      counts_is c t ec et = ap (correct_bench n) a.runs ∙ (λ i. counts_due n (sym ec i) (sym et i))
  bench_ends (ends.Other v) a h = other_ends v a.0 a.1 h

-- and its status
bench_status : (n : ℕ) (paths : List (List ℕ)) (e : BenchEnd) → AnswersBench (bench_files n) bench_job paths e → ((end_due n paths e).status ≢ status.ReadFault) × ((end_due n paths e).status ≢ status.Usage)
unfolding end_due counts_due answer_due
bench_status n paths (ends.Correct commands terms) a = (λ q. cc, λ q. cc)
bench_status n paths (ends.Other answer.Correct) a = absurd a.1
bench_status n paths (ends.Other answer.Incomplete) a = (λ q. cc, λ q. cc)
bench_status n paths (ends.Other (answer.Loaded commands)) a = absurd a.1
bench_status n paths (ends.Other (answer.Refused fault)) a = (λ q. cc, λ q. cc)
bench_status n paths (ends.Other answer.ReadFault) a = absurd a.1
bench_status n paths (ends.Other answer.OutOfMemory) a = (λ q. cc, λ q. cc)

-- a status that is not due is not answered, but that of a fault of writing
status_due : (s other : Status) (d : Due) (w x : Option (List ℕ)) → other ≢ status.WriteFault → d.status ≢ other → WritesDue s d w x → s ≢ other
status_due status.Ok other d w x write differs h = λ q. differs (sym h.0 ∙ q)
status_due status.Incomplete other d w x write differs h = λ q. differs (sym h.0 ∙ q)
status_due status.Refused other d w x write differs h = λ q. differs (sym h.0 ∙ q)
status_due status.Usage other d w x write differs h = λ q. differs (sym h.0 ∙ q)
status_due status.ReadFault other d w x write differs h = λ q. differs (sym h.0 ∙ q)
status_due status.OutOfMemory other d w x write differs h = λ q. differs (sym h.0 ∙ q)
status_due status.WriteFault other d w x write differs h = λ q. write (sym q)

module _ (n : ℕ) (paths : List (List ℕ)) (e : BenchEnd) (s : Status) (w x : Option (List ℕ)) (a : AnswersBench (bench_files n) bench_job paths e) (h : WritesDue s (end_due n paths e) w x) where
  pub bench_reads : s ≢ status.ReadFault
  bench_reads = status_due s status.ReadFault (end_due n paths e) w x (λ q. cc) (bench_status n paths e a).0 h

  pub bench_no_usage : s ≢ status.Usage
  bench_no_usage = status_due s status.Usage (end_due n paths e) w x (λ q. cc) (bench_status n paths e a).1 h

-- a run that calls no library
pub own_has_cause : (s : Status) (before now sink_before sink_now : ℕ) → s ≢ status.ReadFault → (s ≡ status.WriteFault → Rose sink_before sink_now) → EndHasCause s before now sink_before sink_now
own_has_cause status.Ok before now sink_before sink_now reads written = tt
own_has_cause status.Incomplete before now sink_before sink_now reads written = tt
own_has_cause status.Refused before now sink_before sink_now reads written = tt
own_has_cause status.Usage before now sink_before sink_now reads written = tt
own_has_cause status.OutOfMemory before now sink_before sink_now reads written = tt
own_has_cause status.WriteFault before now sink_before sink_now reads written = written refl
own_has_cause status.ReadFault before now sink_before sink_now reads written = absurd (reads refl)

-- where the library did not fail, it may be said that it failed only if F holds
may_fail : (F : Type 0) (s : Status) (due : Due) (w x : Option (List ℕ)) → Ends ⊥ s due w x → Ends F s due w x
may_fail F status.Ok due w x h = h
may_fail F status.Incomplete due w x h = h
may_fail F status.Refused due w x h = h
may_fail F status.Usage due w x h = h
may_fail F status.OutOfMemory due w x h = h
may_fail F status.ReadFault due w x h = absurd h.0
may_fail F status.WriteFault due w x (inl h) = inl h
may_fail F status.WriteFault due w x (inr (inl h)) = absurd h.0
may_fail F status.WriteFault due w x (inr (inr h)) = inr (inr h)

-- what was written ends a bench, whether files are known or not
pub bench_ends_as : (F : Type 0) (told : Option Files) (s : Status) (n : ℕ) (w x : Option (List ℕ)) → Ends ⊥ s (bench_due n) w x → EndsAs F told s (Some (Bench n)) w x
unfolding due
bench_ends_as F None s n w x h = tt
bench_ends_as F (Some files) s n w x h = may_fail F s (bench_due n) w x h

-- ---- what needs no files

pub own_ends : (s : Status) (w x : Option (List ℕ)) (reading other : Option Request) → reading ≡ other → Ends ⊥ s (due [] reading) w x → Ends ⊥ s (due [] other) w x
own_ends s w x reading other e h = subst (λ (o : Option Request). Ends ⊥ s (due [] o) w x) e h

true_is_not_false : true ≡ false → ⊥
true_is_not_false e = cc

-- words that ask for this do not ask for what needs no files
pub wants_files : (asked reading : Option Request) → asked ≡ reading → needs_no_files asked ≡ false → needs_no_files reading ≡ true → ⊥
wants_files asked reading e wants own = true_is_not_false (sym own ∙ sym (ap needs_no_files e) ∙ wants)

-- and words that ask for a bench ask for one
pub asks_bench : (asked reading : Option Request) → asked ≡ reading → is_bench asked ≡ true → is_bench reading ≡ false → ⊥
asks_bench asked reading e is other = true_is_not_false (sym is ∙ ap is_bench e ∙ other)

pub own_usage : (s : Status) (w x : Option (List ℕ)) → WritesDue s usage_due w x → Ends ⊥ s (due [] None) w x
unfolding due
own_usage s w x h = usage_ends ⊥ s w x h

pub own_bench : (s : Status) (n : ℕ) (w x : Option (List ℕ)) → Ends ⊥ s (bench_due n) w x → Ends ⊥ s (due [] (Some (Bench n))) w x
unfolding due
own_bench s n w x h = h

pub own_memory : (s : Status) (w x : Option (List ℕ)) (reading : Option Request) → WritesDue s out_of_memory_due w x → Ends ⊥ s (due [] reading) w x
own_memory s w x reading h = out_of_memory_ends ⊥ s (due [] reading) w x h

-- an answer other than a fault of reading has no such status
read_fault_is : {F : Type 0} (told : Option F) (paths : List (List ℕ)) (a : Verdict) (before now : ℕ) → status.ReadFault ≡ (answer_due paths a).status → AnswerHasCause a told before now → Rose before now
unfolding answer_due
read_fault_is told paths answer.Correct before now e h = cc
read_fault_is told paths answer.Incomplete before now e h = cc
read_fault_is told paths (answer.Loaded n) before now e h = cc
read_fault_is told paths (answer.Refused fault) before now e h = cc
read_fault_is told paths answer.OutOfMemory before now e h = cc
read_fault_is told paths answer.ReadFault before now e h = h

pub end_has_cause : {F : Type 0} (told : Option F) (paths : List (List ℕ)) (a : Verdict) (s : Status) (w x : Option (List ℕ)) (before now sink_before sink_now : ℕ)
    → WritesDue s (answer_due paths a) w x → AnswerHasCause a told before now → (s ≡ status.WriteFault → Rose sink_before sink_now) → EndHasCause s before now sink_before sink_now
end_has_cause told paths a status.Ok w x before now sink_before sink_now h cause written = tt
end_has_cause told paths a status.Incomplete w x before now sink_before sink_now h cause written = tt
end_has_cause told paths a status.Refused w x before now sink_before sink_now h cause written = tt
end_has_cause told paths a status.Usage w x before now sink_before sink_now h cause written = tt
end_has_cause told paths a status.OutOfMemory w x before now sink_before sink_now h cause written = tt
end_has_cause told paths a status.WriteFault w x before now sink_before sink_now h cause written = written refl
end_has_cause told paths a status.ReadFault w x before now sink_before sink_now h cause written = read_fault_is told paths a before now h.0 cause

no_usage_due : (paths : List (List ℕ)) (a : Verdict) → (answer_due paths a).status ≢ status.Usage
unfolding answer_due
no_usage_due paths answer.Correct = λ e. cc
no_usage_due paths answer.Incomplete = λ e. cc
no_usage_due paths (answer.Loaded n) = λ e. cc
no_usage_due paths (answer.Refused fault) = λ e. cc
no_usage_due paths answer.OutOfMemory = λ e. cc
no_usage_due paths answer.ReadFault = λ e. cc

-- a check does not end with the status of the usage line
pub no_usage : (paths : List (List ℕ)) (a : Verdict) (s : Status) (w x : Option (List ℕ)) → WritesDue s (answer_due paths a) w x → s ≢ status.Usage
no_usage paths a status.Ok w x h = λ e. cc
no_usage paths a status.Incomplete w x h = λ e. cc
no_usage paths a status.Refused w x h = λ e. cc
no_usage paths a status.OutOfMemory w x h = λ e. cc
no_usage paths a status.ReadFault w x h = λ e. cc
no_usage paths a status.WriteFault w x h = λ e. cc
no_usage paths a status.Usage w x h = λ _. no_usage_due paths a (sym h.0)

-- the words have this reading
pub reading_ends : (F : Type 0) (told : Option Files) (s : Status) (w x : Option (List ℕ)) (reading other : Option Request) → reading ≡ other
    → EndsAs F told s reading w x → EndsAs F told s other w x
reading_ends F told s w x reading other e h = subst (λ (o : Option Request). EndsAs F told s o w x) e h

-- no usage line is written where the words have a reading
pub reads_ends : (s : Status) (request : Request) (reading : Option Request) → Some request ≡ reading → s ≢ status.Usage → UsageFits s reading
reads_ends s request reading e never = record { only = λ q. absurd (never q); always = λ none. cc }

-- the words have no reading
pub no_reading_ends : (F : Type 0) (told : Option Files) (s : Status) (w x : Option (List ℕ)) → Ends F s usage_due w x → EndsAs F told s None w x
unfolding due
no_reading_ends F None s w x h = tt
no_reading_ends F (Some files) s w x h = h

in_full : (s : Status) (due : Due) (w x : Option (List ℕ)) (l m k n : ℕ) → Ends (Rose l m) s due w x → EndHasCause s l m k n → (Rose l m → ⊥) → (Rose k n → ⊥) → EndsInFull s due w x
in_full status.Ok due w x l m k n e c f g = e
in_full status.Incomplete due w x l m k n e c f g = e
in_full status.Refused due w x l m k n e c f g = e
in_full status.Usage due w x l m k n e c f g = e
in_full status.OutOfMemory due w x l m k n e c f g = e
in_full status.ReadFault due w x l m k n e c f g = absurd (f c)
in_full status.WriteFault due w x l m k n e c f g = absurd (g c)

-- what is due is written where nothing of the outside failed
pub completes : (told : Option Files) (s : Status) (reading : Option Request) (w x : Option (List ℕ)) (l m k n : ℕ) → EndsAs (Rose l m) told s reading w x → EndHasCause s l m k n → (Rose l m → ⊥) → Completes told s reading w x k n
completes None s reading w x l m k n e c f g = tt
completes (Some files) s reading w x l m k n e c f g = in_full s (due files reading) w x l m k n e c f g
