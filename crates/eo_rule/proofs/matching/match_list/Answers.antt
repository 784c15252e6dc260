use Rattle.eo_rule.proofs.Steps.{value-none, value-some}
use Rattle.eo_rule.proofs.matching.match_list.Goals as goal

pub returns-then-not-branch : goal.returns-then-not-branch
returns-then-not-branch c = value-none _ _ (c.in_ok-match_with_room.ensures.no c.if-not-branch.true)

pub returns : goal.returns
returns c = record { live = c.in_ok-match_with_room.ensures.below; is = value-some _ _ _ (c.in_ok-match_with_room.ensures.yes c.if-not-branch.false) }
