use Rattle.std.proofs.Common.{◌≡◌, ℕ, ◌<◌, length, get_or}
use Rattle.eo_term.specs.Terms.{tree_at}
use Rattle.eo_term.specs.Arguments.{arguments_of, argument_at}
use Rattle.eo_pattern.specs.Matching.{put}
use Rattle.eo_pattern.specs.Slots.{held}
use Rattle.eo_pattern.proofs.substitution.put_op.Given as goal

-- each argument so far has the put tree
abbrev pub invariant-loop-i : goal.invariant-loop-i
invariant-loop-i l = record {
  long : length l.args ≡ 64;
  done : (k : ℕ) → k < l.i → (get_or l.args k 0 < length l.table.trees) × (tree_at l.table.trees (get_or l.args k 0) ≡ put (held l.table.trees l.subst) (argument_at (arguments_of (tree_at l.table.trees l.id)) k));
}
