use Rattle.std.proofs.Common.{◌≡◌, drop}
use Rattle.std.specs.Prelude.{find}
use Rattle.eo_term.specs.Operators.{is_named}
use Rattle.eo_term.proofs.operators.first_named.Given as goal

abbrev pub invariant-loop-op : goal.invariant-loop-op
invariant-loop-op l = find (is_named l.word) l.ops ≡ find (is_named l.word) (drop l.op-index l.ops)
