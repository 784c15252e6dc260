use Rattle.std.proofs.Common.{◌≡◌, refl, sym, ap, ◌∙◌, subst}
use Rattle.std.proofs.lemmas.Result.{IfOk-from_err}
use Rattle.eo_term.proofs.Growing.{grows_refl}
use Rattle.eo_term.proofs.Numbers.{on_err}
use Rattle.eo_term.specs.Terms.{tree_at}
use Rattle.eo_term.specs.Tree.{is_tall}
use Rattle.eo_pattern.specs.Matching.{put}
use Rattle.eo_pattern.specs.Slots.{held, Holds}
use Rattle.eo_pattern.proofs.Making.{not_refused}
use Rattle.eo_pattern.proofs.Steps.{holds_grown, put_closed}
use Rattle.eo_pattern.proofs.substitution.substitute.Goals as goal

pub returns-then-is_closed-clause-made : goal.returns-then-is_closed-clause-made
returns-then-is_closed-clause-made c =
    let ts = c.args.table.now.trees in
    let same : put (held ts c.args.subst.now) (tree_at ts c.args.id) ≡ tree_at ts c.args.id = put_closed (held ts c.args.subst.now) (tree_at ts c.args.id) (sym c.is_closed.ensures.closed ∙ c.if-is_closed.true) in
    record { live = c.requires.live; tree = sym same; low = ap is_tall same ∙ c.is_closed.ensures.low c.args.id c.requires.live }

pub returns-then-is_closed-clause-holds : goal.returns-then-is_closed-clause-holds
returns-then-is_closed-clause-holds c = record { held = refl; below = c.requires.below }

pub returns-then-is_closed-clause-grows : goal.returns-then-is_closed-clause-grows
returns-then-is_closed-clause-grows c = grows_refl c.args.table.now

pub release-requires : goal.release-requires
release-requires c = c.put_from-made.ensures.grows.now.marks c.mark-mark.result c.mark-mark.ensures.holds

pub returns-else-is_err-clause-holds : goal.returns-else-is_err-clause-holds
returns-else-is_err-clause-holds c = holds_grown c.args.subst.now c.args.table.now c.put_from-made.new.table c.requires.below c.put_from-made.ensures.grows.now

pub returns-then-is_err-clause-made : goal.returns-then-is_err-clause-made
returns-then-is_err-clause-made c = IfOk-from_err c.put_from-made.result _ (sym c.is_err.ensures.value ∙ c.if-is_err.true)

pub returns-then-is_err-clause-err : goal.returns-then-is_err-clause-err
returns-then-is_err-clause-err c = on_err c.put_from-made.result _ (c.release.ensures.back c.args.table.now c.put_from-made.ensures.grows c.mark-mark.ensures.mark).same

pub returns-then-is_err-clause-holds : goal.returns-then-is_err-clause-holds
returns-then-is_err-clause-holds c =
    let same = (c.release.ensures.back c.args.table.now c.put_from-made.ensures.grows c.mark-mark.ensures.mark).same in
    subst (λ t. Holds c.args.subst.now c.args.table.now.trees t.trees) (sym same) (record { held = refl; below = c.requires.below })

pub returns-then-is_err-clause-grows : goal.returns-then-is_err-clause-grows
returns-then-is_err-clause-grows c = (c.release.ensures.back c.args.table.now c.put_from-made.ensures.grows c.mark-mark.ensures.mark).grows

pub returns-else-is_err-clause-err : goal.returns-else-is_err-clause-err
returns-else-is_err-clause-err c = not_refused c.put_from-made.result _ (sym c.is_err.ensures.value ∙ c.if-is_err.false)
