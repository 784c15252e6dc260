use Rattle.std.proofs.Common.{◌≡◌, ◌++◌, ℕ, List, Option, drop, map}
use Rattle.eo_sexp.specs.Printing.{printed_lines}
use Rattle.eo_sig.specs.Reading.{signature}
use Rattle.eo_term.specs.Tree.{Tree}
use Rattle.eo_show.specs.Lines.{line}
use Rattle.eo_show.specs.Numbers.{numbered}
use Rattle.eo_show.specs.Plan.{member_trees}
use Rattle.eo_show.specs.Sizes.{AreNamed}
use Rattle.eo_show.proofs.writing.write_lines.Given as goal

abbrev pub invariant-loop-place : goal.invariant-loop-place
invariant-loop-place l = (named : Tree → Option (List ℕ)) → AreNamed (member_trees l.table l.members.found.keys) l.numbers named →
    l.out.items ++ printed_lines (map (line (signature l.table.trees l.sig) named) (numbered (drop l.place (member_trees l.table l.members.found.keys)) (drop l.place l.numbers)))
    ≡ l.fn.out.items ++ printed_lines (map (line (signature l.table.trees l.sig) named) (numbered (member_trees l.table l.members.found.keys) l.numbers))
