use Rattle.std.proofs.Common.{length, ap, ◌∙◌}
use Rattle.eo_term.specs.Terms.{tree_at}
use Rattle.eo_pattern.specs.Matching.{assign}
use Rattle.eo_type.proofs.application.assign.Goals as goal

pub returns-clause-held : goal.returns-clause-held
returns-clause-held c =
    let ts = c.args.table.now.trees in
    c.put.ensures.held ts ∙ ap (λ σ. assign σ c.args.par (tree_at ts c.args.id)) (c.reserve.ensures.held ts)

pub returns-clause-below : goal.returns-clause-below
returns-clause-below c =
    let n = length c.args.table.now.trees in
    c.put.ensures.below n (c.reserve.ensures.below n c.requires.below) c.requires.live
