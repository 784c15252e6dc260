use Rattle.std.proofs.Common.{◌≡◌, take}
use Rattle.eo_trim.specs.Marking.{is_marked, text_of}
use Rattle.eo_trim.proofs.writing.trimmed_text.Given as goal

-- the text of the commands so far
abbrev pub invariant-loop-i : goal.invariant-loop-i
invariant-loop-i l = l.text.items ≡ text_of (is_marked l.marks) (take l.i l.entries)
