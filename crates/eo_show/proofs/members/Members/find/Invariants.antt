use Rattle.eo_term.specs.Terms.{tree_at}
use Rattle.eo_sig.specs.Reading.{signature}
use Rattle.eo_show.specs.Walking.{IsWalking, turns_in}
use Rattle.eo_show.proofs.members.Members.find.Given as goal

abbrev pub invariant-loop-frame : goal.invariant-loop-frame
invariant-loop-frame l = IsWalking (signature l.table.trees l.sig) l.table (tree_at l.table.trees l.id) l.members.found.keys l.members.forms.items l.frames.items

abbrev pub decreases-loop-frame : goal.decreases-loop-frame
decreases-loop-frame l = turns_in (signature l.table.trees l.sig) l.table (tree_at l.table.trees l.id) l.members.found.keys l.frames.items
