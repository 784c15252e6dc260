use Rattle.std.proofs.Common.{◌≡◌, ◌<◌, length, refl, sym, ◌∙◌, subst, arith, rules}
use Rattle.std.specs.Option.{IsSome}
use Rattle.std.proofs.lemmas.Option.{same_Some}
use Rattle.eo_show.specs.Plan.{member_tree, member_trees}
use Rattle.eo_show.specs.Sizes as sizes
use Rattle.eo_show.proofs.MembersAt.{found-at, kept-at}
use Rattle.eo_show.proofs.sizes.part_size.Goals as goal

pub unwrap-place-requires : goal.unwrap-place-requires
unwrap-place-requires c =
    let found = found-at (member_trees c.args.table.now c.args.members.now.found.keys) (length c.args.sizes.now) (member_tree c.args.table.now c.args.part.now) c.place.result c.place.ensures.place c.requires.before in
    subst IsSome (sym found.1) refl

pub offset_bounds-sizes-place : goal.offset_bounds-sizes-place
offset_bounds-sizes-place c =
    let found = found-at (member_trees c.args.table.now c.args.members.now.found.keys) (length c.args.sizes.now) (member_tree c.args.table.now c.args.part.now) c.place.result c.place.ensures.place c.requires.before in
    let same : found.0 ≡ c.unwrap-place.result = same_Some found.0 c.unwrap-place.result (sym found.1 ∙ c.unwrap-place.ensures) in
    let lower : c.unwrap-place.result < length c.args.sizes.now = omega (arith, same, found.2) in
    search (rules, lower)

pub bounds-sizes-place : goal.bounds-sizes-place
bounds-sizes-place c =
    let found = found-at (member_trees c.args.table.now c.args.members.now.found.keys) (length c.args.sizes.now) (member_tree c.args.table.now c.args.part.now) c.place.result c.place.ensures.place c.requires.before in
    let same : found.0 ≡ c.unwrap-place.result = same_Some found.0 c.unwrap-place.result (sym found.1 ∙ c.unwrap-place.ensures) in
    omega (arith, same, found.2)

pub returns : goal.returns
returns c = λ S e.
    let all = member_trees c.args.table.now c.args.members.now.found.keys in
    let found = found-at all (length c.args.sizes.now) (member_tree c.args.table.now c.args.part.now) c.place.result c.place.ensures.place c.requires.before in
    let same : found.0 ≡ c.unwrap-place.result = same_Some found.0 c.unwrap-place.result (sym found.1 ∙ c.unwrap-place.ensures) in
    kept-at (sizes.part_size S all) all (length c.args.sizes.now) found.0 c.unwrap-place.result (member_tree c.args.table.now c.args.part.now) c.args.sizes.now record { height = 0; bytes = 0 } e found.2 found.3 found.4 same
