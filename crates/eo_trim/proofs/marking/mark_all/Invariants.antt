use Rattle.std.proofs.Common.{take}
use Rattle.eo_trim.specs.Marking.{MarksMore}
use Rattle.eo_trim.proofs.marking.mark_all.Given as goal

-- the numbers so far are marked
abbrev pub invariant-loop-number : goal.invariant-loop-number
invariant-loop-number l = MarksMore l.fn.marks l.marks (take l.number-index l.numbers)
