use Rattle.std.proofs.Common.{ap, sym, subst, ◌∙◌}
use Rattle.eo_term.specs.Arguments.{arguments_of}
use Rattle.eo_term.specs.Growth.{tree_in}
use Rattle.eo_term.specs.Terms.{tree_of}
use Rattle.eo_sig.specs.Reading.{signature}
use Rattle.eo_declare.specs.Declarations.{joiner}
use Rattle.eo_declare.specs.Gives.{GivesNumber}
use Rattle.eo_declare.proofs.RuleLemmas.{other_joiner}
use Rattle.eo_declare.proofs.rules.joining.Goals as goal

pub returns-in-Con : goal.returns-in-Con
returns-in-Con c =
    let t = c.args.table.now in
    let S = signature t.trees c.args.sig.now in
    let is_constant = sym c.node.ensures.tree ∙ ap (λ n. tree_of t.trees t.texts n (arguments_of (tree_in t c.args.id))) c.in-Con.is in
    subst (GivesNumber c.with_terminator.result) (ap (joiner S) (sym is_constant)) (c.with_terminator.ensures t.trees)

pub returns-in_default : goal.returns-in_default
returns-in_default c =
    let t = c.args.table.now in
    let S = signature t.trees c.args.sig.now in
    ap (joiner S) (sym c.node.ensures.tree) ∙ other_joiner S t.trees t.texts c.node.result (arguments_of (tree_in t c.args.id)) c.in_default.not-Con
