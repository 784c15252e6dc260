-- The file of a refusal that is answered is one of the paths.
use Rattle.std.proofs.Common.{ℕ, List}
use Rattle.eo_io.specs.Library.{Files}
use Rattle.eo_run.specs.Answer.{FileInRange}
use Rattle.eo_run.specs.Benching.{AnswersBench, EndInRange}
use Rattle.eo_run.specs.Judging.{IsCheckAnswer, IsLoadAnswer}
use Rattle.eo_run.specs.Opening.{IsStop}
use Rattle.eo_run.specs.declared.BenchEnd.{BenchEnd}
use Rattle.eo_run.specs.declared.BenchEnd.TheVariants as ends
use Rattle.eo_run.specs.declared.CheckJob.{CheckJob}
use Rattle.eo_run.specs.declared.Verdict.{Verdict}
use Rattle.eo_run.specs.declared.Verdict.TheVariants as answer
use Rattle.eo_sem.specs.ProveAnswers.{IsProveAnswer}
use Rattle.eo_sem.specs.declared.ProveEnd.TheVariants as proved
use Rattle.eo_trim.specs.TrimAnswers.{IsTrimAnswer}
use Rattle.eo_trim.specs.declared.TrimEnd.TheVariants as trimmed

pub check_in_range : (paths : List (List ℕ)) (a : Verdict) → IsCheckAnswer paths a → FileInRange paths a
check_in_range paths (answer.Refused fault) h = h
check_in_range paths a h = tt

pub load_in_range : (paths : List (List ℕ)) (a : Verdict) → IsLoadAnswer paths a → FileInRange paths a
load_in_range paths (answer.Refused fault) h = h
load_in_range paths a h = tt

pub bench_in_range : (files : Files) (job : CheckJob) (paths : List (List ℕ)) (e : BenchEnd) → AnswersBench files job paths e → EndInRange paths e
bench_in_range files job paths (ends.Correct commands terms) h = tt
bench_in_range files job paths (ends.Other (answer.Refused fault)) h = h.1
bench_in_range files job paths (ends.Other v) h = tt

pub stop_in_range : (paths : List (List ℕ)) (a : Verdict) → IsStop paths a → FileInRange paths a
stop_in_range paths (answer.Refused fault) h = h
stop_in_range paths a h = tt

pub trim_in_range : (paths : List (List ℕ)) (a : Verdict) → IsTrimAnswer paths (trimmed.Other a) → FileInRange paths a
trim_in_range paths (answer.Refused fault) h = h
trim_in_range paths a h = tt

pub prove_in_range : (paths : List (List ℕ)) (a : Verdict) → IsProveAnswer paths (proved.Other a) → FileInRange paths a
prove_in_range paths (answer.Refused fault) h = h
prove_in_range paths a h = tt
