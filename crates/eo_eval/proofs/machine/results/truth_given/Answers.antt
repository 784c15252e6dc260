use Rattle.std.proofs.Common.{◌∙◌, length, sym, ap, subst}
use Rattle.eo_term.specs.Terms.{tree_at}
use Rattle.eo_term.specs.Tree.{Con}
use Rattle.eo_term.proofs.Equality.{tree_decides}
use Rattle.eo_stack.specs.Evaluation.{Value}
use Rattle.eo_stack.specs.Reading.{IsNoTruth}
use Rattle.eo_eval.proofs.machine.results.truth_given.Goals as goal

pub is_constant-requires : goal.is_constant-requires
is_constant-requires c = c.in-Some.ensures.live (length c.args.table.now.trees) c.requires

pub is_constant-requires-2 : goal.is_constant-requires-2
is_constant-requires-2 c = c.in-Some.ensures.live (length c.args.table.now.trees) c.requires

pub returns-then-is_constant-clause-some : goal.returns-then-is_constant-clause-some
returns-then-is_constant-clause-some c =
    let ts = c.args.table.now.trees in
    c.in-Some.ensures.some ts ∙ ap Value ((tree_decides (tree_at ts c.in-Some.id) (Con 2)).0 (sym c.is_constant.ensures ∙ c.if-is_constant.true))

pub returns-then-is_constant-2-clause-some : goal.returns-then-is_constant-2-clause-some
returns-then-is_constant-2-clause-some c =
    let ts = c.args.table.now.trees in
    c.in-Some.ensures.some ts ∙ ap Value ((tree_decides (tree_at ts c.in-Some.id) (Con 3)).0 (sym c.is_constant-2.ensures ∙ c.if-is_constant-2.true))

pub returns-clause-none : goal.returns-clause-none
returns-clause-none c =
    subst IsNoTruth (sym (c.in-Some.ensures.some c.args.table.now.trees)) (sym c.is_constant.ensures ∙ c.if-is_constant.false, sym c.is_constant-2.ensures ∙ c.if-is_constant-2.false)
