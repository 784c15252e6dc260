use Rattle.std.proofs.Common.{ap, sym, ◌∙◌}
use Rattle.std.specs.Prelude.{option_map}
use Rattle.std.specs.Option.{option_copied}
use Rattle.eo_shape.specs.Reading.{read_command, read_rule}
use Rattle.eo_shape.specs.Shapes.{DeclareRule}
use Rattle.eo_shape.proofs.Behind.{rule-behind}
use Rattle.eo_shape.proofs.rules.declare_rule.Goals as goal

pub returns-in_err-rule : goal.returns-in_err-rule
returns-in_err-rule c =
    let parts = sym c.in_ok-name.was ∙ c.split_two.ensures in
    let name = sym c.symbol.ensures ∙ ap option_copied c.in_ok-symbol.was in
    let params = sym c.parameters.ensures ∙ c.in_ok-parameters.was in
    let rule = sym c.rule_of.ensures ∙ ap (option_map read_rule) c.in_err-rule.was in
    ap (option_map read_command) c.from_residual-in_err-rule.ensures
    ∙ sym (rule-behind c.args.parts.now c.in_ok-name.name c.in_ok-name.params c.in_ok-name.rest c.in_ok-symbol.field-0.now c.in_ok-parameters.field-0 parts name params ∙ ap (option_map DeclareRule) rule)

pub returns : goal.returns
returns c =
    let parts = sym c.in_ok-name.was ∙ c.split_two.ensures in
    let name = sym c.symbol.ensures ∙ ap option_copied c.in_ok-symbol.was in
    let params = sym c.parameters.ensures ∙ c.in_ok-parameters.was in
    let rule = sym c.rule_of.ensures ∙ ap (option_map read_rule) c.in_ok-rule.was in
    sym (rule-behind c.args.parts.now c.in_ok-name.name c.in_ok-name.params c.in_ok-name.rest c.in_ok-symbol.field-0.now c.in_ok-parameters.field-0 parts name params ∙ ap (option_map DeclareRule) rule)
