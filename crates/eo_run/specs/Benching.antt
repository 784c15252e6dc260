-- What a bench returns, and what is due for it.
use Rattle.std.specs.Prelude.{◌≡◌, ℕ, List, slice_get, IsSome, Ok, ⊤}
use Rattle.eo_io.specs.Library.{Files}
use Rattle.eo_run.specs.Answer.{Answers, FileInRange, answer_due}
use Rattle.eo_run.specs.Check.{verdict}
use Rattle.eo_run.specs.Pieces.{counts_due}
use Rattle.eo_run.specs.Printed.{Due}
use Rattle.eo_session.specs.Roots.{live_count}
use Rattle.eo_run.specs.Run.{Progress, run_check}
use Rattle.eo_session.specs.State.{State}
use Rattle.eo_run.specs.Verdict.{Correct}
use Rattle.eo_run.specs.declared.BenchEnd.{BenchEnd}
use Rattle.eo_run.specs.declared.BenchEnd.TheVariants as ends
use Rattle.eo_run.specs.declared.CheckEnd.{CheckEnd}
use Rattle.eo_run.specs.declared.CheckEnd.TheVariants as checks
use Rattle.eo_run.specs.declared.CheckJob.{CheckJob}
use Rattle.eo_run.specs.declared.Verdict.{Verdict}
use Rattle.eo_run.specs.declared.Verdict.TheVariants as answer

-- ---- results

-- The check is correct, and at its end so many commands were accepted, and so many different trees are alive.
pub record Counts (files : Files) (job : CheckJob) (commands terms : ℕ) : Type 0 where
  pub correct : verdict files job ≡ Correct
  pub last : Progress
  pub runs : run_check files job ≡ Ok last
  pub accepted : commands ≡ last.state.commands
  pub alive : terms ≡ live_count last.state

-- A result for a check that is not correct, over files that are all known. The file of a refusal is one of the paths.
abbrev pub IsOtherEnd : List (List ℕ) → Verdict → Type 0
IsOtherEnd paths answer.Incomplete = ⊤
IsOtherEnd paths (answer.Refused fault) = IsSome (slice_get paths fault.place.file)
IsOtherEnd paths answer.OutOfMemory = ⊤
IsOtherEnd paths v = ⊥

-- The result is correct just where the verdict of the files is, with the numbers at the end of their run.
abbrev pub AnswersBench : Files → CheckJob → List (List ℕ) → BenchEnd → Type 0
AnswersBench files job paths (ends.Correct commands terms) = Counts files job commands terms
AnswersBench files job paths (ends.Other v) = Answers paths v (verdict files job) × IsOtherEnd paths v

-- the result for the end of a check and the state there
abbrev pub counted : CheckEnd → State → BenchEnd
counted (checks.Correct r) st = ends.Correct st.commands (live_count st)
counted (checks.Ended v) st = ends.Other v

-- ---- what is due for it

-- the file of a refusal is one of the paths
abbrev pub EndInRange : List (List ℕ) → BenchEnd → Type 0
EndInRange paths (ends.Correct commands terms) = ⊤
EndInRange paths (ends.Other v) = FileInRange paths v

unfoldable pub end_due : (n : ℕ) → List (List ℕ) → BenchEnd → Due
end_due n paths (ends.Correct commands terms) = counts_due n commands terms
end_due n paths (ends.Other v) = answer_due paths v
