use Rattle.eo_sig.specs.Reading.{read_rule}
use Rattle.eo_term.proofs.Growing.{grows_on}
use Rattle.eo_pattern.specs.Matching.{put}
use Rattle.eo_pattern.specs.Slots.{held}
use Rattle.eo_rule.specs.Instance.{guarded_conclusion}
use Rattle.eo_rule.proofs.Guarded.{put_tall, builds_put}
use Rattle.eo_rule.proofs.concluding.put_conclusion.Goals as goal

pub returns-in_err-guarded-clause-gives : goal.returns-in_err-guarded-clause-gives
returns-in_err-guarded-clause-gives c =
    let ts = c.args.table.now.trees in
    c.builds_law.ensures.term _ _ _ _ _ c.from_residual.ensures.1
    (put_tall (held ts c.args.subst.now) (guarded_conclusion (read_rule ts c.args.rule.now))) c.in_err-guarded.ensures.gives

pub returns-clause-gives : goal.returns-clause-gives
returns-clause-gives c =
    let t = c.args.table.now in
    let mid = c.guarded_conclusion.new.table in
    let same = (c.growing_law.ensures.holds c.args.subst.now t mid c.requires.below c.in_ok-guarded.ensures.grows.now).held in
    let tree = c.in_ok-guarded.ensures.gives.tree in
    builds_put c.substitute.new.table (held mid.trees c.args.subst.now) mid.trees c.in_ok-guarded.guarded _ c.substitute.result (λ k. put (same k) (tree k)) c.substitute.ensures.made c.substitute.ensures.tall

pub substitute-requires : goal.substitute-requires
substitute-requires c =
    let g = c.in_ok-guarded.ensures in
    record {
      live = g.gives.live;
      below = (c.growing_law.ensures.holds c.args.subst.now c.args.table.now c.guarded_conclusion.new.table c.requires.below g.grows.now).below;
    }

pub returns-clause-grows : goal.returns-clause-grows
returns-clause-grows c = grows_on _ _ _ c.in_ok-guarded.ensures.grows c.substitute.ensures.grows
