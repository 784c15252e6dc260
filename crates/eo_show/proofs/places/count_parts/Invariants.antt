use Rattle.std.proofs.Common.{◌≡◌, ◌++◌, List, take, map}
use Rattle.eo_term.specs.Tree.{Tree}
use Rattle.eo_show.specs.Places.{counted}
use Rattle.eo_show.specs.Plan.{member_trees}
use Rattle.eo_show.proofs.places.count_parts.Given as goal

abbrev pub invariant-loop-part : goal.invariant-loop-part
invariant-loop-part l = (done : List Tree) → l.fn.places.items ≡ map (counted done) (member_trees l.table l.members.found.keys) →
    l.places.items ≡ map (counted (done ++ member_trees l.table (take l.part-index l.parts))) (member_trees l.table l.members.found.keys)
