use Rattle.std.proofs.Common.{◌∷◌, [], length, refl, sym, ap, ◌∙◌, subst, arith}
use Rattle.std.proofs.lemmas.Bool.Decides.{Decides-eqb}
use Rattle.eo_term.specs.Tree.{Tree, occurs}
use Rattle.eo_term.specs.Terms.{tree_at}
use Rattle.eo_pattern.specs.Matching.{Matches}
use Rattle.eo_pattern.specs.Slots.{held}
use Rattle.eo_pattern.specs.declared.tasks.Task.TheVariants as task
use Rattle.eo_pattern.proofs.Doing.{height_some, size_some, room_inside, done_becomes, one_becomes, two_becomes, args_become, leads_here}
use Rattle.eo_pattern.proofs.matching.match_roots.Goals as goal

pub match_par-requires-clause-room : goal.match_par-requires-clause-room
match_par-requires-clause-room c =
    c.requires.given.pair.room c.in-Par.i (ap (occurs c.in-Par.i) c.in-Par.ensures ∙ (Decides-eqb c.in-Par.i c.in-Par.i).1 refl)

pub push-requires : goal.push-requires
push-requires c = let l = room_inside _ _ _ _ c.requires.room (height_some _) c.in-One.ensures.part.lower in omega (arith, l)

pub push-requires-in-Two : goal.push-requires-in-Two
push-requires-in-Two c = let l = room_inside _ _ _ _ c.requires.room (height_some _) c.in-Two.ensures.first.lower in omega (arith, l)

pub push-requires-in-Two-2 : goal.push-requires-in-Two-2
push-requires-in-Two-2 c =
    let l = room_inside _ _ _ _ c.requires.room (height_some _) c.in-Two.ensures.first.lower in
    let n = ap length c.push-in-Two.ensures.tasks in
    omega (arith, l, n, c.push-in-Two.ensures.room)

pub returns-in-Equal-clause-yes : goal.returns-in-Equal-clause-yes
returns-in-Equal-clause-yes c = λ _.
    let ts = c.args.table.now.trees in
    let some = size_some (tree_at ts c.args.pattern) in
    done_becomes 1 _ _ _ _ _ (leads_here _ _ _ _ (c.in-Equal.ensures (held ts c.args.subst.now))) (λ i u e. e) (omega (arith, some))

pub returns-in-Par-clause-yes : goal.returns-in-Par-clause-yes
returns-in-Par-clause-yes c = λ y.
    let ts = c.args.table.now.trees in
    let some = size_some (tree_at ts c.args.pattern) in
    let m : Matches (held ts c.args.subst.now) (tree_at ts c.args.pattern ∷ []) (tree_at ts c.args.term ∷ []) (held ts c.match_par.new.subst) = subst (λ (p : Tree). Matches (held ts c.args.subst.now) (p ∷ []) (tree_at ts c.args.term ∷ []) (held ts c.match_par.new.subst)) (sym c.in-Par.ensures) (c.match_par.ensures.yes y) in
    done_becomes 1 _ _ _ _ _ (leads_here _ _ _ _ m) m.extends (omega (arith, some))

pub returns-in-One-clause-yes : goal.returns-in-One-clause-yes
returns-in-One-clause-yes c = λ _. one_becomes _ _ _ _ _ _ _ _ c.requires.given.pair c.in-One.ensures c.push.ensures.tasks c.push.ensures.room c.requires.room

pub returns-in-Two-clause-yes : goal.returns-in-Two-clause-yes
returns-in-Two-clause-yes c = λ _.
    two_becomes _ _ _ _ _ _ _ _ _ _ c.requires.given.pair c.in-Two.ensures (c.push-in-Two-2.ensures.tasks ∙ ap (λ ws. task.Pair c.in-Two.p c.in-Two.t ∷ ws) c.push-in-Two.ensures.tasks) (c.push-in-Two-2.ensures.room ∙ c.push-in-Two.ensures.room) c.requires.room

pub returns-in-Args-clause-yes : goal.returns-in-Args-clause-yes
returns-in-Args-clause-yes c = λ _. args_become _ _ _ _ _ _ _ c.requires.given.pair c.in-Args.ensures c.push-in-Args.ensures.tasks c.push-in-Args.ensures.room c.requires.room

pub push-requires-in-Args : goal.push-requires-in-Args
push-requires-in-Args c = omega (arith, c.in-Args.ensures.tall, c.requires.room)
