use Rattle.std.proofs.Common.{◌≡◌, ◌<◌, ◌≤◌, length, All}
use Rattle.bench_intern.proofs.make_leaves.Given as goal

abbrev pub invariant-loop-i : goal.invariant-loop-i
invariant-loop-i l = record { more : 4 ≤ length l.table.trees; live : All (λ j. j < length l.table.trees) l.leaves; long : length l.leaves ≡ 1024 }
