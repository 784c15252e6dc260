use Rattle.std.proofs.Common.{◌∙◌, ap, sym}
use Rattle.std.specs.Prelude.{option_map}
use Rattle.std.specs.Option.{option_copied}
use Rattle.eo_base.specs.declared.FaultName.TheVariants.{BadCommand}
use Rattle.eo_base.specs.Checks.{value_or}
use Rattle.eo_shape.specs.Forms.{shape_by}
use Rattle.eo_shape.specs.Reading.{read_command}
use Rattle.eo_shape.proofs.ByWord.{split-none, split-some, command_of-none, command_of-other, command_of-unknown, command_of-known}
use Rattle.eo_shape.proofs.shaping.command_of.Goals as goal

pub returns-in_default-clause-refused : goal.returns-in_default-clause-refused
returns-in_default-clause-refused c =
    command_of-none c.args.in_reference c.args.s.now (sym c.children.ensures ∙ split-none c.children.result c.split_first.result c.split_first.ensures c.in_default.is)

pub returns-in_default-symbol-clause-refused : goal.returns-in_default-symbol-clause-refused
returns-in_default-symbol-clause-refused c =
    let parts = sym c.children.ensures ∙ split-some c.children.result c.in-Some.head c.in-Some.parts c.split_first.result c.split_first.ensures c.in-Some.is in
    command_of-other c.args.in_reference c.args.s.now c.in-Some.head c.in-Some.parts parts (sym c.symbol.ensures ∙ ap option_copied c.in_default-symbol.is)

pub returns-in_default-form_named-clause-refused : goal.returns-in_default-form_named-clause-refused
returns-in_default-form_named-clause-refused c =
    let parts = sym c.children.ensures ∙ split-some c.children.result c.in-Some.head c.in-Some.parts c.split_first.result c.split_first.ensures c.in-Some.is in
    let word = sym c.symbol.ensures ∙ ap option_copied c.in-Some-symbol.is in
    command_of-unknown c.args.in_reference c.args.s.now c.in-Some.head c.in-Some.parts c.in-Some-symbol.word.now parts word (sym c.form_named.ensures ∙ ap (option_map shape_by) c.in_default-form_named.is)

pub returns-in-Some-command_by_form-clause-shape : goal.returns-in-Some-command_by_form-clause-shape
unfolding value_or
returns-in-Some-command_by_form-clause-shape c =
    let parts = sym c.children.ensures ∙ split-some c.children.result c.in-Some.head c.in-Some.parts c.split_first.result c.split_first.ensures c.in-Some.is in
    let word = sym c.symbol.ensures ∙ ap option_copied c.in-Some-symbol.is in
    let form = sym c.form_named.ensures ∙ ap (option_map shape_by) c.in-Some-form_named.is in
    command_of-known c.args.in_reference c.args.s.now c.in-Some.head c.in-Some.parts c.in-Some-symbol.word.now (shape_by c.in-Some-form_named.form) parts word form
    ∙ ap (value_or BadCommand) (sym c.command_by_form.ensures ∙ ap (option_map read_command) c.in-Some-command_by_form.is)

pub returns-in-None-clause-refused : goal.returns-in-None-clause-refused
unfolding value_or
returns-in-None-clause-refused c =
    let parts = sym c.children.ensures ∙ split-some c.children.result c.in-Some.head c.in-Some.parts c.split_first.result c.split_first.ensures c.in-Some.is in
    let word = sym c.symbol.ensures ∙ ap option_copied c.in-Some-symbol.is in
    let form = sym c.form_named.ensures ∙ ap (option_map shape_by) c.in-Some-form_named.is in
    command_of-known c.args.in_reference c.args.s.now c.in-Some.head c.in-Some.parts c.in-Some-symbol.word.now (shape_by c.in-Some-form_named.form) parts word form
    ∙ ap (value_or BadCommand) (sym c.command_by_form.ensures ∙ ap (option_map read_command) c.in-None.is)
