use Rattle.std.proofs.Common.{◌≡◌, take, map}
use Rattle.eo_show.specs.Places.{counted, parts_kept}
use Rattle.eo_show.specs.Plan.{member_trees}
use Rattle.eo_show.proofs.places.count_places.Given as goal

abbrev pub invariant-loop-form : goal.invariant-loop-form
invariant-loop-form l = l.places.items ≡ map (counted (parts_kept l.table (take l.form-index l.members.forms.items))) (member_trees l.table l.members.found.keys)
