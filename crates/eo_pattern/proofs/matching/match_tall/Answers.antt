use Rattle.std.proofs.Common.{arith}
use Rattle.eo_term.specs.Terms.{tree_at}
use Rattle.eo_pattern.proofs.Doing.{height_some, tall_becomes}
use Rattle.eo_pattern.proofs.matching.match_tall.Goals as goal

pub push-requires : goal.push-requires
push-requires c = let some = height_some (tree_at c.args.table.now.trees c.args.pattern) in omega (arith, some, c.requires.room)

pub returns-clause-yes : goal.returns-clause-yes
returns-clause-yes c = λ y. tall_becomes _ _ _ _ _ _ _ _ c.push.ensures.tasks c.push.ensures.room c.requires.room (c.match_roots.ensures.yes y)
