use Rattle.std.proofs.Common.{ap, sym, ◌∙◌}
use Rattle.eo_base.proofs.Answering.{fails}
use Rattle.eo_term.specs.Arguments.{arguments_of}
use Rattle.eo_term.specs.Growth.{tree_in}
use Rattle.eo_term.specs.Terms.{tree_of}
use Rattle.eo_declare.specs.Declarations.{constant_number}
use Rattle.eo_declare.proofs.CheckedLemmas.{then-ok, then-err}
use Rattle.eo_declare.proofs.ConstantLemmas.{other_number}
use Rattle.eo_declare.proofs.constants.constant_meant.Goals as goal

pub returns-in_err-id-clause-gives : goal.returns-in_err-id-clause-gives
returns-in_err-id-clause-gives c = fails _ _ _ _ _ _ _ c.from_residual.ensures.1 (λ f e. then-err constant_number _ f e) c.in_err-id.ensures.gives

pub returns-in-Con-clause-gives : goal.returns-in-Con-clause-gives
returns-in-Con-clause-gives c =
    let t = c.elaborate_in.new.table in
    record {
      live = tt;
      is = then-ok constant_number _ _ c.in_ok-id.ensures.gives.is ∙ ap constant_number (sym c.node.ensures.tree ∙ ap (λ n. tree_of t.trees t.texts n (arguments_of (tree_in t c.in_ok-id.id))) c.in-Con.is);
    }

pub returns-in_default-clause-gives : goal.returns-in_default-clause-gives
returns-in_default-clause-gives c =
    let t = c.elaborate_in.new.table in
    then-ok constant_number _ _ c.in_ok-id.ensures.gives.is ∙ ap constant_number (sym c.node.ensures.tree)
    ∙ other_number t.trees t.texts c.node.result (arguments_of (tree_in t c.in_ok-id.id)) c.in_default.not-Con
