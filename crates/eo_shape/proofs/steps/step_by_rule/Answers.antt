use Rattle.std.proofs.Common.{ap, sym, ◌∙◌, rules}
use Rattle.std.specs.Option.{option_copied}
use Rattle.eo_shape.proofs.Behind.{step-behind}
use Rattle.eo_shape.proofs.steps.step_by_rule.Goals as goal

pub returns : goal.returns
returns c =
    let parts = sym c.in_ok-keyword.was ∙ c.split_two.ensures in
    let rule = sym c.symbol.ensures ∙ ap option_copied c.in_ok-symbol.was in
    c.step_with.ensures
    ∙ sym (step-behind c.args.name.now c.args.stated c.args.parts.now c.in_ok-keyword.keyword c.in_ok-keyword.rule c.in_ok-keyword.rest c.in_ok-symbol.field-0.now parts (search rules) rule)
