use Rattle.std.proofs.Common.{ap}
use Rattle.std.specs.Prelude.{Result}
use Rattle.eo_shape.specs.Reading.{read_command}
use Rattle.eo_session.specs.Commands.{next_by}
use Rattle.eo_session.specs.Store.{state_of}
use Rattle.eo_session.specs.Stepping.{Gives}
use Rattle.eo_session.specs.declared.Next.{Next}
use Rattle.eo_session.specs.declared.refused.Refused.{Refused}
use Rattle.eo_base.proofs.Answering.{at_exit}
use Rattle.eo_session.proofs.NamedPaths.{include-next, include-stops, refer-next, refer-stops, next-done, next-exit}
use Rattle.eo_session.proofs.store.Store.next_by.Goals as goal

pub returns-in_err-path-in-Include : goal.returns-in_err-path-in-Include
returns-in_err-path-in-Include c =
    let st = state_of c.args.self.now in
    let k = read_command c.args.command.now in
    let x = c.in_err-path-in-Include.field-0.0 in
    at_exit (λ (r : Result Next Refused). Gives r (next_by st k)) c.from_residual.result x c.from_residual.ensures.1
    (include-stops st k c.in-Include.path.now (ap read_command c.in-Include.is) x c.in_err-path-in-Include.ensures)

pub returns-in_err-path-in-Refer : goal.returns-in_err-path-in-Refer
returns-in_err-path-in-Refer c =
    let st = state_of c.args.self.now in
    let k = read_command c.args.command.now in
    let x = c.in_err-path-in-Refer.field-0.0 in
    at_exit (λ (r : Result Next Refused). Gives r (next_by st k)) c.from_residual-in_err-path-in-Refer.result x c.from_residual-in_err-path-in-Refer.ensures.1
    (refer-stops st k c.in-Refer.path.now (ap read_command c.in-Refer.is) x c.in_err-path-in-Refer.ensures)

pub returns-in_ok-path-in-Include : goal.returns-in_ok-path-in-Include
returns-in_ok-path-in-Include c =
    include-next (state_of c.args.self.now) (read_command c.args.command.now) c.in-Include.path.now (ap read_command c.in-Include.is) c.in_ok-path-in-Include.path c.in_ok-path-in-Include.ensures

pub returns-in_ok-path-in-Refer : goal.returns-in_ok-path-in-Refer
returns-in_ok-path-in-Refer c =
    refer-next (state_of c.args.self.now) (read_command c.args.command.now) c.in-Refer.path.now (ap read_command c.in-Refer.is) c.in_ok-path-in-Refer.path c.in_ok-path-in-Refer.ensures

pub returns-in_default : goal.returns-in_default
returns-in_default c = next-done (state_of c.args.self.now) c.args.command.now c.in_default.not-Include c.in_default.not-Refer c.in_default.not-Exit

pub returns-in-Exit : goal.returns-in-Exit
returns-in-Exit c = next-exit (state_of c.args.self.now) c.args.command.now c.in-Exit.is
