use Rattle.std.proofs.Common.{subst}
use Rattle.eo_term.specs.Terms.{tree_at}
use Rattle.eo_term.specs.Tree.{Tree}
use Rattle.eo_pattern.specs.Matching.{put}
use Rattle.eo_pattern.specs.Slots.{held}
use Rattle.eo_type.specs.Types.{settled}
use Rattle.eo_rule.specs.Answers.{of_term, GivesTerm}
use Rattle.eo_rule.specs.Uses.{typed_or}
use Rattle.eo_rule.proofs.Steps.{term_fails, itself, settled-tall}
use Rattle.eo_rule.proofs.values.settle_type.Goals as goal

pub returns-in_err-made-clause-gives : goal.returns-in_err-made-clause-gives
returns-in_err-made-clause-gives c =
    let ts = c.args.table.now.trees in
    let t = put (held ts c.args.subst.now) (tree_at ts c.args.ty) in
    let x = c.in_err-made.field-0.0 in
    term_fails c.substitute.new.table _ (typed_or (settled t)) (of_term x) (typed_or (settled t)) c.from_residual.ensures.1 (itself _) (settled-tall t x c.in_err-made.ensures.tall)

pub returns-clause-gives : goal.returns-clause-gives
returns-clause-gives c =
    subst (λ (u : Tree). GivesTerm c.settled_type.new.table c.settled_type.result (typed_or (settled u))) c.in_ok-made.ensures.made.tree c.settled_type.ensures.gives
