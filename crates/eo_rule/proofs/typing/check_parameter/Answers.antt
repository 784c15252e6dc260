use Rattle.std.proofs.Common.{◌≡◌, None, Some, sym, ap, ◌∙◌, subst}
use Rattle.std.specs.Prelude.{option_map, Option}
use Rattle.eo_sig.specs.Reading.{signature}
use Rattle.eo_term.specs.Terms.{tree_at}
use Rattle.eo_term.specs.Tree.{Tree}
use Rattle.eo_pattern.specs.Slots.{held}
use Rattle.eo_rule.specs.Answers.{GivesAssignment}
use Rattle.eo_rule.specs.Uses.{check_type}
use Rattle.eo_rule.proofs.Chains.{held_below}
use Rattle.eo_rule.proofs.typing.check_parameter.Goals as goal

pub check_value-requires-clause-value : goal.check_value-requires-clause-value
check_value-requires-clause-value c = held_below _ c.args.subst.now c.args.par c.in-Some.value c.requires.below (sym c.get.ensures.value ∙ c.in-Some.is)

pub returns-in_default-clause-gives : goal.returns-in_default-clause-gives
returns-in_default-clause-gives c =
    let ts = c.args.table.now.trees in
    let none : held ts c.args.subst.now c.args.par ≡ None = ap (option_map (tree_at ts)) (sym c.get.ensures.value ∙ c.in_default.is) in
    record { live = c.requires.below; is = ap (check_type (signature ts c.args.sig.now) (held ts c.args.subst.now) (tree_at ts c.args.ty)) none }

pub returns-clause-gives : goal.returns-clause-gives
returns-clause-gives c =
    let ts = c.args.table.now.trees in
    let some : held ts c.args.subst.now c.args.par ≡ Some (tree_at ts c.in-Some.value) = ap (option_map (tree_at ts)) (sym c.get.ensures.value ∙ c.in-Some.is) in
    subst (λ (o : Option Tree). GivesAssignment c.check_value.new.table c.check_value.result c.check_value.new.subst
    (check_type (signature ts c.args.sig.now) (held ts c.args.subst.now) (tree_at ts c.args.ty) o))
    (sym some) c.check_value.ensures.gives
