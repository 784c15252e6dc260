use Rattle.std.proofs.Common.{◌≡◌, ◌≤◌, length}
use Rattle.eo_trim.specs.Marking.{AreBelow}
use Rattle.eo_trim.proofs.Marks.{MarkedFrom}
use Rattle.eo_trim.proofs.marking.mark_needs.Given as goal

-- what the commands after it need is marked
abbrev pub invariant-loop-left : goal.invariant-loop-left
invariant-loop-left l = record {
  within : l.left ≤ length l.entries;
  same : length l.marks ≡ length l.fn.marks;
  marks : AreBelow (length l.fn.marks) l.entries → MarkedFrom l.entries l.fn.marks l.marks l.left;
}

abbrev pub decreases-loop-left : goal.decreases-loop-left
decreases-loop-left l = l.left
