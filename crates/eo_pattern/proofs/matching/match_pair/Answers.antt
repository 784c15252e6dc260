use Rattle.std.proofs.Common.{arith}
use Rattle.eo_term.specs.Terms.{tree_at}
use Rattle.eo_pattern.proofs.Doing.{size_some, done_becomes, leads_here, less_becomes}
use Rattle.eo_pattern.proofs.Steps.{still_matched}
use Rattle.eo_pattern.proofs.matching.match_pair.Goals as goal

pub returns-then-is_kept-clause-yes : goal.returns-then-is_kept-clause-yes
returns-then-is_kept-clause-yes c = λ _.
    let some = size_some (tree_at c.args.table.now.trees c.args.pattern) in
    done_becomes 0 _ _ _ _ _ (leads_here _ _ _ _ (c.requires.matched.each _ _ (c.is_kept.ensures.0 c.if-is_kept.true))) (λ i u e. e) (omega (arith, some))

pub returns-then-not-is_used-clause-yes : goal.returns-then-not-is_used-clause-yes
returns-then-not-is_used-clause-yes c = λ y. less_becomes _ _ _ _ _ _ (c.match_roots.ensures.yes y)

pub returns-then-not-is_used-clause-matched : goal.returns-then-not-is_used-clause-matched
returns-then-not-is_used-clause-matched c = λ y. still_matched _ _ _ _ (c.match_roots.ensures.yes y).extends c.requires.matched

pub returns-clause-matched : goal.returns-clause-matched
returns-clause-matched c = λ y. still_matched _ _ _ _ (c.match_tall.ensures.yes y).extends c.requires.matched
