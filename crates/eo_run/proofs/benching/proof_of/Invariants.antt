use Rattle.std.proofs.Common.{◌≡◌, ◌++◌, string_bytes, codes}
use Rattle.eo_run.specs.Bench.{hops}
use Rattle.eo_run.specs.Printed.{line}
use Rattle.eo_run.proofs.benching.proof_of.Given as goal

abbrev pub invariant-loop-k : goal.invariant-loop-k
invariant-loop-k l = string_bytes l.text ≡ line (codes "(assume @a0 (at 0))") ++ hops l.k
