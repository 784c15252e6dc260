use Rattle.std.proofs.Common.{ap, sym, subst}
use Rattle.eo_shape.specs.Reading.{read_command}
use Rattle.eo_sig.specs.Reading.{signature, macros}
use Rattle.eo_ref.specs.Answers.{GivesNext, next_in}
use Rattle.eo_ref.specs.Reference.{by_command}
use Rattle.eo_ref.proofs.Commands.{others_declare}
use Rattle.eo_ref.proofs.reference.Reference.next.Goals as goal

pub returns-in-Assert-clause-gives : goal.returns-in-Assert-clause-gives
unfolding by_command
returns-in-Assert-clause-gives c =
    subst (GivesNext c.assertion_of.new.table c.assertion_of.result) (sym (ap (λ k. next_in c.args.table.now c.args.sig.now (read_command k)) c.in-Assert.is)) c.assertion_of.ensures.gives

pub returns-in-Exit-clause-gives : goal.returns-in-Exit-clause-gives
unfolding by_command
returns-in-Exit-clause-gives c = record { live = tt; is = ap (λ k. next_in c.args.table.now c.args.sig.now (read_command k)) c.in-Exit.is }

pub returns-in-Skip-clause-gives : goal.returns-in-Skip-clause-gives
unfolding by_command
returns-in-Skip-clause-gives c = record { live = tt; is = ap (λ k. next_in c.args.table.now c.args.sig.now (read_command k)) c.in-Skip.is }

pub returns-in_default-clause-gives : goal.returns-in_default-clause-gives
returns-in_default-clause-gives c =
    let t = c.args.table.now in
    let k = c.args.sig.now in
    let same = others_declare (signature t.trees k) (macros t.trees k) c.args.command.now c.in_default.not-Assert c.in_default.not-Exit c.in_default.not-Skip in
    subst (GivesNext c.declaration_of.new.table c.declaration_of.result) (sym same) c.declaration_of.ensures.gives
