use Rattle.std.proofs.Common.{◌≡◌, ◌+◌, ◌≤◌, length}
use Rattle.eo_base.specs.Limits.{limits}
use Rattle.eo_sexp.specs.Collecting.{IsLive, here_of}
use Rattle.eo_sexp.specs.Cutting.{IsWaiting}
use Rattle.bench_read.specs.Counting.{commands_behind}
use Rattle.bench_read.proofs.count.Given as goal

abbrev pub invariant-loop-rest : goal.invariant-loop-rest
invariant-loop-rest l = record {
  live : IsLive l.collector;
  waiting : IsWaiting limits l.collector;
  counts : commands_behind l.initial.collector l.text ≡ l.commands + commands_behind l.collector l.rest;
  here : (here_of l.collector).offset + length l.rest ≤ (here_of l.initial.collector).offset + length l.text;
}

abbrev pub decreases-loop-rest : goal.decreases-loop-rest
decreases-loop-rest l = commands_behind l.collector l.rest + length l.rest
