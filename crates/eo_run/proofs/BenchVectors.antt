-- Small benches: their verdict, and how many commands are accepted and how many trees alive at their end.
use Rattle.std.specs.Prelude.{◌≡◌, refl, ℕ, Ok, Err}
use Rattle.eo_run.proofs.Computed.{computed}
use Rattle.eo_run.specs.Bench.{bench_files, bench_job}
use Rattle.eo_run.specs.Check.{verdict}
use Rattle.eo_session.specs.Roots.{live_count, roots}
use Rattle.eo_run.specs.Run.{Ran, run_check}
use Rattle.eo_run.specs.Verdict.{Correct}

abbrev numbers : Ran → ℕ × ℕ
numbers (Ok p) = (p.state.commands, live_count p.state)
numbers (Err refusal) = (0, 0)

one_is_correct : verdict (bench_files 1) bench_job ≡ Correct
unfolding computed bench_files
one_is_correct = refl

one : numbers (run_check (bench_files 1) bench_job) ≡ (15, 36)
unfolding computed bench_files roots live_count
one = refl

two : numbers (run_check (bench_files 2) bench_job) ≡ (17, 43)
unfolding computed bench_files roots live_count
two = refl
