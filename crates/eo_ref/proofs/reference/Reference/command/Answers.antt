use Rattle.std.proofs.Common.{◌≡◌, ap, sym, subst, ◌∙◌}
use Rattle.std.specs.Prelude.{true, Err}
use Rattle.eo_base.specs.declared.FaultName.TheVariants.{UnknownCommand, BadCommand}
use Rattle.eo_base.proofs.ChecksLemmas.{bind_step, bind_fails}
use Rattle.eo_shape.specs.Reading.{fault_of}
use Rattle.eo_shape.specs.Shapes.{command_of}
use Rattle.eo_sig.specs.Reading.{signature, macros}
use Rattle.eo_ref.specs.Answers.{GivesNext}
use Rattle.eo_ref.specs.Reference.{by_command, reference_command}
use Rattle.eo_ref.proofs.reference.Reference.command.Goals as goal

pub returns-in-Ok-clause-gives : goal.returns-in-Ok-clause-gives
unfolding reference_command
returns-in-Ok-clause-gives c =
    let t = c.args.table.now in
    let k = c.args.sig.now in
    let known = bind_step (command_of true c.args.s.now) (by_command (signature t.trees k) (macros t.trees k)) _ c.in-Ok.ensures.shape in
    subst (GivesNext c.next.new.table c.next.result) (sym known) c.next.ensures.gives

pub returns-in-Err-UnknownCommand-clause-gives : goal.returns-in-Err-UnknownCommand-clause-gives
unfolding reference_command
returns-in-Err-UnknownCommand-clause-gives c =
    let t = c.args.table.now in
    let k = c.args.sig.now in
    let e = c.in-Err-UnknownCommand in
    let refused : command_of true c.args.s.now ≡ Err UnknownCommand = e.ensures.refused ∙ ap (λ r. Err (fault_of r)) e.field-0-is in
    bind_fails (command_of true c.args.s.now) (by_command (signature t.trees k) (macros t.trees k)) UnknownCommand refused

pub returns-in-Err-BadCommand-clause-gives : goal.returns-in-Err-BadCommand-clause-gives
unfolding reference_command
returns-in-Err-BadCommand-clause-gives c =
    let t = c.args.table.now in
    let k = c.args.sig.now in
    let e = c.in-Err-BadCommand in
    let refused : command_of true c.args.s.now ≡ Err BadCommand = e.ensures.refused ∙ ap (λ r. Err (fault_of r)) e.field-0-is in
    bind_fails (command_of true c.args.s.now) (by_command (signature t.trees k) (macros t.trees k)) BadCommand refused
