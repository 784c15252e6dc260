use Rattle.std.proofs.Common.{◌+◌, length, map, take, drop, sym, ap, ◌∙◌, subst, arith}
use Rattle.std.specs.List.{fold, Contains}
use Rattle.std.proofs.lemmas.List.{at_drop_more, at_drop_all}
use Rattle.eo_show.specs.Plan.{member_tree, member_trees}
use Rattle.eo_show.specs.Sizes.{with_part, part_size}
use Rattle.eo_show.proofs.sizes.with_parts.Goals as goal

pub part_size-other-requires-clause-before : goal.part_size-other-requires-clause-before
part_size-other-requires-clause-before c =
    subst (λ p. Contains (take (length c.args.sizes.now) (member_trees c.args.table.now c.args.members.now.found.keys)) (member_tree c.args.table.now p)) (sym c.part-item.is) (c.requires.before c.loop-part.part-index c.part-item.result (omega (arith, c.loop-part-test.true)))

pub loop-part-preserved : goal.loop-part-preserved
loop-part-preserved c = λ S e.
    let t = c.args.table.now in
    let f = part_size S (member_trees t c.args.members.now.found.keys) in
    let i = c.loop-part.part-index in
    ap (λ z. fold with_part z (map f (member_trees t (drop (i + 1) c.args.parts.now)))) (c.with_part-size.ensures ∙ ap (with_part c.loop-part.size) (c.part_size-other.ensures S e ∙ ap (λ p. f (member_tree t p)) c.part-item.is))
    ∙ sym (at_drop_more (λ ps. fold with_part c.loop-part.size (map f (member_trees t ps))) c.args.parts.now i c.part-item.result (omega (arith, c.loop-part-test.true)))
    ∙ c.loop-part.invariant S e

pub returns : goal.returns
returns c = λ S e.
    let t = c.args.table.now in
    let f = part_size S (member_trees t c.args.members.now.found.keys) in
    sym (at_drop_all (λ ps. fold with_part c.loop-part.size (map f (member_trees t ps))) c.args.parts.now c.loop-part.part-index (omega (arith, c.loop-part-test.false))) ∙ c.loop-part.invariant S e
