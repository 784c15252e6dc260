use Rattle.std.proofs.Common.{◌≡◌, ℕ, ◌<◌, length, get_or}
use Rattle.eo_term.specs.Growth.{tree_in}
use Rattle.eo_term.specs.Arguments.{arguments_of, argument_at}
use Rattle.eo_type.specs.Types.{settle}
use Rattle.eo_type.specs.Outcomes.{IsTyped}
use Rattle.eo_type.proofs.settling.settle_op.Given as goal

-- each argument so far is settled
abbrev pub invariant-loop-i : goal.invariant-loop-i
invariant-loop-i l = record {
  long : length l.args ≡ 64;
  done : (k : ℕ) → k < l.i → IsTyped l.table (settle (argument_at (arguments_of (tree_in l.table l.id)) k)) (get_or l.args k 0);
}
