-- What is due for the words, and what a run proves.
use Rattle.std.specs.Prelude.{◌≡◌, ℕ, Bool, true, false, List, Option, Some, None, Ok, Err, IfSome}
use Rattle.eo_base.specs.Causes.{Rose}
use Rattle.eo_base.specs.declared.Status.{Status}
use Rattle.eo_base.specs.declared.Status.TheVariants as status
use Rattle.eo_io.specs.Library.{Files}
use Rattle.eo_run.specs.Bench.{bench_files, bench_job}
use Rattle.eo_run.specs.Check.{verdict, load_verdict}
use Rattle.eo_main.specs.Proving.{prove_due}
use Rattle.eo_main.specs.Showing.{show_due}
use Rattle.eo_main.specs.ToolAnswers.{LeavesNoModel, WritesShorter}
use Rattle.eo_main.specs.Trimming.{trim_due}
use Rattle.eo_run.specs.Printed.{Due, verdict_due, usage_due, bench_text}
use Rattle.eo_run.specs.Refutation.{Refutes, ClosedKeepsRules}
use Rattle.eo_session.specs.Roots.{live_count}
use Rattle.eo_run.specs.Run.{Ran, run_check}
use Rattle.eo_run.specs.Verdict.{Verdict, Correct, Refused}
use Rattle.eo_run.specs.declared.CheckJob.{CheckJob}
use Rattle.eo_sem.specs.Proving.{prove}
use Rattle.eo_trim.specs.Trim.{trim}
use Rattle.eo_main.specs.Ends.{Ends, EndsInFull}
use Rattle.eo_main.specs.declared.Request.{Request}
use Rattle.eo_main.specs.declared.Request.TheVariants.{Check, Load, Bench, Show, Trim, Prove}

-- A correct bench says how many commands were accepted, and how many different trees are alive at the end of its run.
abbrev pub correct_bench : ℕ → Ran → Due
correct_bench n (Ok p) = record { status = status.Ok; text = bench_text n p.state.commands (live_count p.state) }
correct_bench n (Err stopped) = verdict_due (Refused stopped.refusal)

abbrev pub judged_bench : ℕ → Verdict → Due
judged_bench n Correct = correct_bench n (run_check (bench_files n) bench_job)
judged_bench n v = verdict_due v

unfoldable pub bench_due : ℕ → Due
bench_due n = judged_bench n (verdict (bench_files n) bench_job)

-- What is due for a reading of the words.
unfoldable pub due : Files → Option Request → Due
due files None = usage_due
due files (Some (Check job)) = verdict_due (verdict files job)
due files (Some (Load file)) = verdict_due (load_verdict files file)
due files (Some (Bench n)) = bench_due n
due files (Some (Show file name)) = show_due files file name
due files (Some (Trim job)) = trim_due (trim files job)
due files (Some (Prove reference proof)) = prove_due (prove files reference proof)

-- what is due does not depend on the library's files
abbrev pub needs_no_files : Option Request → Bool
needs_no_files None = true
needs_no_files (Some (Check job)) = false
needs_no_files (Some (Load file)) = false
needs_no_files (Some (Bench n)) = true
needs_no_files (Some (Show file name)) = false
needs_no_files (Some (Trim job)) = false
needs_no_files (Some (Prove reference proof)) = false

-- the words ask for a bench, whose files are not the library's
abbrev pub is_bench : Option Request → Bool
is_bench None = false
is_bench (Some (Check job)) = false
is_bench (Some (Load file)) = false
is_bench (Some (Bench n)) = true
is_bench (Some (Show file name)) = false
is_bench (Some (Trim job)) = false
is_bench (Some (Prove reference proof)) = false

-- What is written may be the bytes of a proof that is trimmed, which may be any: such a run is not refused.
abbrev pub may_write_proof : Status → Option Request → Bool
may_write_proof status.Refused reading = false
may_write_proof s (Some (Trim job)) = true
may_write_proof s reading = false

-- The run ends as is due for the reading of its words, where files are known. The library failed only if `failed` holds.
abbrev pub EndsAs : (failed : Type 0) → Option Files → Status → Option Request → (before after : Option (List ℕ)) → Type 0
EndsAs failed told s reading before after = IfSome told (λ files. Ends failed s (due files reading) before after)

-- Where files are known and no call of the sink failed, all that is due is written, unless there is no memory left.
abbrev pub Completes : Option Files → Status → Option Request → (before after : Option (List ℕ)) → (sink_before sink_now : ℕ) → Type 0
Completes told s reading before after sink_before sink_now = (Rose sink_before sink_now → ⊥) → IfSome told (λ files. EndsInFull s (due files reading) before after)

-- A check that ends with status 0, where files are known, refutes what its reference file asserts.
abbrev pub OkRefutes : Option Files → Status → Option Request → Type 0
OkRefutes told s reading = (job : CheckJob) → reading ≡ Some (Check job) → s ≡ status.Ok → IfSome told (λ files. Refutes files job)

-- In a closed check, where files are known, the proof declares no program and no rule.
abbrev pub ClosedKeeps : Option Files → Option Request → Type 0
ClosedKeeps told reading = (job : CheckJob) → reading ≡ Some (Check job) → IfSome told (λ files. ClosedKeepsRules files job)

-- What a trim that ends with status 0 writes, where files are known, is a proof by the needed commands alone, which stays correct.
abbrev pub OkShortens : Option Files → Status → Option Request → (before after : Option (List ℕ)) → Type 0
OkShortens told s reading before after = (job : CheckJob) → reading ≡ Some (Trim job) → WritesShorter told s job before after

-- A proof of validity that ends with status 0, where files are known, leaves no valuation that makes all that was asserted true.
abbrev pub OkLeavesNoModel : Option Files → Status → Option Request → Type 0
OkLeavesNoModel told s reading = (reference proof : List ℕ) → reading ≡ Some (Prove reference proof) → LeavesNoModel told s reference proof
