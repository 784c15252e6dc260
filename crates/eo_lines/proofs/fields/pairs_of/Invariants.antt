use Rattle.std.proofs.Common.{◌≡◌, length}
use Rattle.eo_lines.specs.Forms.{paired}
use Rattle.eo_lines.proofs.NumbersRead.{pairs_after}
use Rattle.eo_lines.proofs.fields.pairs_of.Given as goal

abbrev pub invariant-loop-left : goal.invariant-loop-left
invariant-loop-left l = paired l.list ≡ pairs_after l.found.items (paired l.left)

abbrev pub decreases-loop-left : goal.decreases-loop-left
decreases-loop-left l = length l.left
