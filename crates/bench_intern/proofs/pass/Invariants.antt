use Rattle.std.proofs.Common.{◌<◌, ◌≤◌, length, All}
use Rattle.bench_intern.proofs.pass.Given as goal

abbrev pub invariant-loop-i : goal.invariant-loop-i
invariant-loop-i l = record { more : length l.fn.table.trees ≤ length l.table.trees; live : All (λ j. j < length l.table.trees) l.leaves }
