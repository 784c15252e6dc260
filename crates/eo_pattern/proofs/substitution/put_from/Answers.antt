use Rattle.std.proofs.Common.{◌≡◌, ◌<◌, length, sym, ap, ◌∙◌, subst}
use Rattle.std.specs.Prelude.{IfOk}
use Rattle.eo_term.specs.Tree.{is_tall}
use Rattle.eo_term.specs.Terms.{tree_at}
use Rattle.eo_pattern.specs.Matching.{put}
use Rattle.eo_pattern.specs.Slots.{held}
use Rattle.eo_pattern.specs.Steps.{put_in, IsMade}
use Rattle.eo_term.proofs.Growing.{grows_refl}
use Rattle.eo_pattern.proofs.Steps.{put_missed}
use Rattle.eo_pattern.proofs.substitution.put_from.Goals as goal

pub returns-then-is_apart-clause-made : goal.returns-then-is_apart-clause-made
returns-then-is_apart-clause-made c =
    let ts = c.args.table.now.trees in
    let same : put (held ts c.args.subst.now) (tree_at ts c.args.id) ≡ tree_at ts c.args.id =
    put_missed ts c.args.subst.now c.assigned_params-assigned.result c.parameters.result (tree_at ts c.args.id) c.assigned_params-assigned.ensures c.parameters.ensures c.is_apart.ensures.small (c.is_apart.ensures.apart.0 c.if-is_apart.true) in
    record { live = c.requires.live; tree = sym same; low = ap is_tall same ∙ c.laws.ensures.low c.args.id c.requires.live }

pub returns-then-is_apart-clause-grows : goal.returns-then-is_apart-clause-grows
returns-then-is_apart-clause-grows c = grows_refl c.args.table.now

pub put_walk-requires-clause-live : goal.put_walk-requires-clause-live
put_walk-requires-clause-live c = subst (λ k. k < length c.args.table.now.trees) (sym c.new-walk.ensures.top) c.requires.live

pub returns-clause-made : goal.returns-clause-made
returns-clause-made c =
    let ts = c.args.table.now.trees in
    subst (λ k. IfOk c.put_walk.result (IsMade (held ts c.args.subst.now) ts k c.put_walk.new.table.trees)) c.new-walk.ensures.top c.put_walk.ensures.made

pub returns-clause-tall : goal.returns-clause-tall
returns-clause-tall c = λ h. ap (λ k. is_tall (put_in c.args.table.now c.args.subst.now k)) (sym c.new-walk.ensures.top) ∙ c.put_walk.ensures.tall h
