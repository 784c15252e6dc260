use Rattle.std.proofs.Common.{sym}
use Rattle.eo_term.specs.Terms.{tree_at}
use Rattle.eo_pattern.specs.Slots.{held}
use Rattle.eo_pattern.proofs.Steps.{put_missed, told_put}
use Rattle.eo_pattern.proofs.substitution.part_result.Goals as goal

pub returns-then-is_apart-clause-tree : goal.returns-then-is_apart-clause-tree
returns-then-is_apart-clause-tree c =
    sym (put_missed c.args.table.now.trees c.args.subst.now c.args.assigned.now c.parameters.result (tree_at c.args.table.now.trees c.args.id) c.requires.assigned c.parameters.ensures c.is_apart.ensures.small (c.is_apart.ensures.apart.0 c.if-is_apart.true))

pub returns : goal.returns
returns c =
    let p = told_put (held c.args.table.now.trees c.args.subst.now) c.args.table.now.trees c.args.memo.now c.args.id c.get.result c.get.ensures c.requires.memo in
    record { live = p.0; tree = p.1.0; untold = p.1.1 }
