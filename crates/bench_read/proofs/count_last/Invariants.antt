use Rattle.std.proofs.Common.{◌≡◌, ◌+◌, []}
use Rattle.eo_base.specs.Limits.{limits}
use Rattle.eo_sexp.specs.Collecting.{IsLive}
use Rattle.eo_sexp.specs.Cutting.{IsWaiting}
use Rattle.bench_read.specs.Counting.{commands_behind}
use Rattle.bench_read.proofs.count_last.Given as goal

abbrev pub invariant-atoms : goal.invariant-atoms
invariant-atoms l = record {
  live : IsLive l.collector;
  waiting : IsWaiting limits l.collector;
  counts : commands_behind l.initial.collector [] ≡ l.commands + commands_behind l.collector [];
}

abbrev pub decreases-atoms : goal.decreases-atoms
decreases-atoms l = commands_behind l.collector []
