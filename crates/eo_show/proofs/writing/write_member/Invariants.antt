use Rattle.std.proofs.Common.{◌≡◌, ◌<◌, ◌++◌, ℕ, List, Option, length, map}
use Rattle.std.specs.List.{All}
use Rattle.eo_sexp.specs.Printing.{printed}
use Rattle.eo_sig.specs.Reading.{signature}
use Rattle.eo_term.specs.Tree.{Tree, height}
use Rattle.eo_show.specs.Lines.{written}
use Rattle.eo_show.specs.Plan.{member_trees}
use Rattle.eo_show.specs.Unwritten.{AreNamedAt, AreLow, by_number, left, unwritten}
use Rattle.eo_show.proofs.MembersAt.{at}
use Rattle.eo_show.proofs.writing.write_member.Given as goal

abbrev pub invariant-loop-list : goal.invariant-loop-list
invariant-loop-list l = record {
  placed : All (λ o. o.place < length (member_trees l.table l.members.found.keys)) l.lists.items;
  low : AreLow (height (at (member_trees l.table l.members.found.keys) l.fn.place)) (map (left (signature l.table.trees l.sig) (member_trees l.table l.members.found.keys)) l.lists.items);
  same : (named : Tree → Option (List ℕ)) → AreNamedAt (member_trees l.table l.members.found.keys) l.numbers named →
      l.out.items ++ unwritten (signature l.table.trees l.sig) named (height (at (member_trees l.table l.members.found.keys) l.fn.place)) (map (left (signature l.table.trees l.sig) (member_trees l.table l.members.found.keys)) l.lists.items)
      ≡ l.fn.out.items ++ printed (written (signature l.table.trees l.sig) (height (at (member_trees l.table l.members.found.keys) l.fn.place)) named (at (member_trees l.table l.members.found.keys) l.fn.place));
}

abbrev pub decreases-loop-list : goal.decreases-loop-list
decreases-loop-list l = length (unwritten (signature l.table.trees l.sig) (by_number (member_trees l.table l.members.found.keys) l.numbers) (height (at (member_trees l.table l.members.found.keys) l.fn.place)) (map (left (signature l.table.trees l.sig) (member_trees l.table l.members.found.keys)) l.lists.items))
