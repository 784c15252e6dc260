use Rattle.std.proofs.Common.{◌≡◌, length, map, take, drop}
use Rattle.std.specs.List.{fold}
use Rattle.eo_sig.specs.Signature.{Signature}
use Rattle.eo_show.specs.Plan.{member_trees}
use Rattle.eo_show.specs.Sizes.{with_part, part_size}
use Rattle.eo_show.proofs.sizes.with_parts.Given as goal

abbrev pub invariant-loop-part : goal.invariant-loop-part
invariant-loop-part l = (S : Signature) → l.sizes ≡ map (part_size S (member_trees l.table l.members.found.keys)) (take (length l.sizes) (member_trees l.table l.members.found.keys)) →
    fold with_part l.size (map (part_size S (member_trees l.table l.members.found.keys)) (member_trees l.table (drop l.part-index l.parts)))
    ≡ fold with_part l.fn.list (map (part_size S (member_trees l.table l.members.found.keys)) (member_trees l.table l.parts))
