use Rattle.std.proofs.Common.{◌<◌, length, All}
use Rattle.bench_eval.proofs.terms_of.Given as goal

-- the terms so far are there
abbrev pub invariant-loop-id : goal.invariant-loop-id
invariant-loop-id l = All (λ i. i < length l.table.trees) l.list
