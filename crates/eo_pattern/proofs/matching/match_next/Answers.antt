use Rattle.std.proofs.Common.{[], subst}
use Rattle.eo_pattern.specs.Slots.{held}
use Rattle.eo_pattern.specs.Tasks.{ClosesOne}
use Rattle.eo_pattern.proofs.Steps.{more_matched, matches_nil}
use Rattle.eo_pattern.proofs.matching.match_next.Goals as goal

pub returns-in-Done-clause-matched : goal.returns-in-Done-clause-matched
returns-in-Done-clause-matched c = λ _.
    let ts = c.args.table.now.trees in
    more_matched _ _ _ _ _ _ c.keep.ensures.only c.requires.matched (subst (ClosesOne ts (held ts c.args.subst.now) [] []) c.in-Done.is c.requires.first.closes (held ts c.args.subst.now) (matches_nil _))
