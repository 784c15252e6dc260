use Rattle.eo_run.specs.Bench.{bench_files, bench_job}
use Rattle.eo_main.proofs.EndLemmas.{bench_ends, bench_reads, bench_no_usage}
use Rattle.eo_main.proofs.InRange.{bench_in_range}
use Rattle.eo_main.proofs.program.run_bench.Goals as goal

pub print_bench-requires : goal.print_bench-requires
print_bench-requires g c = bench_in_range (bench_files c.args.n) bench_job c.bench-end.new.paths c.bench-end.result c.bench-end.ensures

pub returns-clause-exact : goal.returns-clause-exact
returns-clause-exact g c = bench_ends c.args.n c.bench-end.new.paths c.print_bench.result _ _ c.bench-end.result c.bench-end.ensures c.print_bench.ensures.due

pub returns-clause-no_read_fault : goal.returns-clause-no_read_fault
returns-clause-no_read_fault g c = bench_reads c.args.n c.bench-end.new.paths c.bench-end.result c.print_bench.result _ _ c.bench-end.ensures c.print_bench.ensures.due

pub returns-clause-usage : goal.returns-clause-usage
returns-clause-usage g c = bench_no_usage c.args.n c.bench-end.new.paths c.bench-end.result c.print_bench.result _ _ c.bench-end.ensures c.print_bench.ensures.due
