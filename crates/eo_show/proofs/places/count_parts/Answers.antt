use Rattle.std.proofs.Common.{◌++◌, ◌∷◌, [], map, take, ap, ◌∙◌, arith}
use Rattle.std.proofs.lemmas.List.{take_all}
use Rattle.eo_show.specs.declared.Member.{Member}
use Rattle.eo_show.specs.Places.{counted}
use Rattle.eo_show.specs.Plan.{member_tree, member_trees}
use Rattle.eo_show.proofs.Counting.{more-counted}
use Rattle.eo_show.proofs.places.count_parts.Goals as goal

pub loop-part-preserved : goal.loop-part-preserved
loop-part-preserved c =
    let t = c.args.table.now in
    let us = member_trees t c.args.members.now.found.keys in
    let i = c.loop-part.part-index in
    let ps = c.args.parts.now in
    λ done e.
    c.count_one.ensures (done ++ member_trees t (take i ps)) (c.loop-part.invariant done e)
    ∙ ap (λ (m : Member). map (counted (done ++ member_trees t (take i ps) ++ member_tree t m ∷ [])) us) c.part-item.is
    ∙ ap (λ vs. map (counted vs) us) (more-counted t done ps i c.part-item.result (omega (arith, c.loop-part-test.true)))

pub returns : goal.returns
returns c =
    let t = c.args.table.now in
    let us = member_trees t c.args.members.now.found.keys in
    λ done e.
    c.loop-part.invariant done e
    ∙ ap (λ ms. map (counted (done ++ member_trees t ms)) us) (take_all c.loop-part.part-index c.args.parts.now (omega (arith, c.loop-part-test.false)))
