use Rattle.std.proofs.Common.{ap, ◌∙◌}
use Rattle.eo_show.specs.Places.{counted_at}
use Rattle.eo_show.specs.Plan.{member_tree, member_trees}
use Rattle.eo_show.proofs.Counting.{counted-there, not-there}
use Rattle.eo_show.proofs.places.count_one.Goals as goal

pub returns-in-Some : goal.returns-in-Some
returns-in-Some c =
    let t = c.args.table.now in
    let us = member_trees t c.args.members.now.found.keys in
    λ done e. c.count_at.ensures ∙ ap (counted_at c.in-Some.place) e ∙ counted-there done (member_tree t c.args.part.now) us c.in-Some.place c.laws.ensures c.in-Some.ensures.place

pub returns-in_default : goal.returns-in_default
returns-in_default c =
    let t = c.args.table.now in
    let us = member_trees t c.args.members.now.found.keys in
    λ done e. e ∙ not-there done (member_tree t c.args.part.now) us c.in_default.ensures.place
