use Rattle.std.proofs.Common.{ℕ, ◌<◌, length, arith}
use Rattle.std.proofs.lemmas.List.{length-replicate}
use Rattle.std.proofs.lemmas.List.Elements.{All-replicate}
use Rattle.bench_intern.proofs.make_leaves.Goals as goal

pub loop-i-init : goal.loop-i-init
loop-i-init c = record {
  more = c.requires;
  live = All-replicate (λ j. j < length c.args.table.now.trees) 1024 0 (omega (arith, c.requires));
  long = length-replicate {A = ℕ} 1024 0;
}
