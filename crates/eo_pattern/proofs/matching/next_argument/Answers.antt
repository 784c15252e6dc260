use Rattle.std.proofs.Common.{◌∷◌, length, refl, ap, ◌∙◌, arith}
use Rattle.eo_term.specs.Terms.{tree_at}
use Rattle.eo_term.specs.Arguments.{arguments_of}
use Rattle.eo_pattern.specs.declared.tasks.Task.TheVariants as task
use Rattle.eo_pattern.proofs.Doing.{height_some, room_inside, argument_below, next_becomes, end_becomes}
use Rattle.eo_pattern.proofs.matching.next_argument.Goals as goal

pub push-requires : goal.push-requires
push-requires c =
    let t = tree_at c.args.table.now.trees c.args.pattern in
    let low = argument_below t c.args.next (omega (arith, c.if-next-count.false, c.requires.live.count)) in
    let l = room_inside _ _ _ _ c.requires.room (height_some _) low in
    omega (arith, l)

pub push-requires-2 : goal.push-requires-2
push-requires-2 c =
    let t = tree_at c.args.table.now.trees c.args.pattern in
    let low = argument_below t c.args.next (omega (arith, c.if-next-count.false, c.requires.live.count)) in
    let l = room_inside _ _ _ _ c.requires.room (height_some _) low in
    let n = ap length c.push.ensures.tasks in
    omega (arith, l, n, c.push.ensures.room)

pub returns : goal.returns
returns c =
    let ts = c.args.table.now.trees in
    let ps = arguments_of (tree_at ts c.args.pattern) in
    let us = arguments_of (tree_at ts c.args.term) in
    next_becomes _ _ _ _ _ _ _ _ _ _ c.requires.live (omega (arith, c.if-next-count.false)) ps us refl refl (c.arguments_law.ensures.next ps c.args.next (omega (arith, c.if-next-count.false, c.requires.live.count))) (c.arguments_law.ensures.next us c.args.next (omega (arith, c.if-next-count.false, c.requires.live.same))) c.arg-p.ensures.tree c.arg-t.ensures.tree c.arg-p.ensures.older c.arg-t.ensures.older (c.push-2.ensures.tasks ∙ ap (λ ws. task.Pair c.arg-p.result c.arg-t.result ∷ ws) c.push.ensures.tasks) (c.push-2.ensures.room ∙ c.push.ensures.room) c.requires.room

pub returns-then-next-count : goal.returns-then-next-count
returns-then-next-count c =
    let ts = c.args.table.now.trees in
    let ps = arguments_of (tree_at ts c.args.pattern) in
    let us = arguments_of (tree_at ts c.args.term) in
    end_becomes _ _ _ _ _ _ _ (c.arguments_law.ensures.past ps c.args.next (omega (arith, c.if-next-count.true, c.requires.live.count))) (c.arguments_law.ensures.past us c.args.next (omega (arith, c.if-next-count.true, c.requires.live.same)))
