use Rattle.std.proofs.Common.{◌≡◌, map, take}
use Rattle.eo_sig.specs.Reading.{signature}
use Rattle.eo_show.specs.Members.{is_defined}
use Rattle.eo_show.specs.Plan.{member_trees}
use Rattle.eo_show.specs.Sizes.{part_size}
use Rattle.eo_show.proofs.sizes.find_lines.Given as goal

abbrev pub invariant-loop-place : goal.invariant-loop-place
invariant-loop-place l = record {
  sizes : l.sizes.items ≡ map (part_size (signature l.table.trees l.sig) (member_trees l.table l.members.found.keys)) (take l.place (member_trees l.table l.members.found.keys));
  wants : l.wants.items ≡ map (is_defined (signature l.table.trees l.sig) (member_trees l.table l.members.found.keys)) (take l.place (member_trees l.table l.members.found.keys));
}
