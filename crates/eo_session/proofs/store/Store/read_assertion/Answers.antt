use Rattle.std.specs.Prelude.{Result}
use Rattle.eo_base.proofs.Answering.{at_exit}
use Rattle.eo_ref.specs.declared.Assertion.{Assertion}
use Rattle.eo_session.specs.Asserting.{read_assertion, GivesAssertion}
use Rattle.eo_session.specs.Store.{state_of}
use Rattle.eo_session.specs.Stepping.{of_elab}
use Rattle.eo_session.specs.declared.refused.Refused.{Refused}
use Rattle.eo_session.proofs.Holding.{keeps_table}
use Rattle.eo_session.proofs.Sessions.{refuses_elab}
use Rattle.eo_session.proofs.store.Store.read_assertion.Goals as goal

pub returns-in_err-read-clause-gives : goal.returns-in_err-read-clause-gives
returns-in_err-read-clause-gives c =
    let h = c.args.self.now in
    let x = c.in_err-read.field-0.0 in
    at_exit (λ (r : Result Assertion Refused). GivesAssertion (record h { table = c.read_assertion.new.table }) r (read_assertion (state_of h) c.args.s.now)) c.from_residual.result (of_elab x) c.from_residual.ensures.1
    (refuses_elab _ x c.in_err-read.ensures.gives)

pub returns-in_err-read-clause-keeps : goal.returns-in_err-read-clause-keeps
returns-in_err-read-clause-keeps c = keeps_table c.args.self.now c.requires.whole c.read_assertion.new.table c.in_err-read.ensures.grows.stays c.in_err-read.ensures.grows.table

pub returns-clause-gives : goal.returns-clause-gives
returns-clause-gives c = record { live = c.in_ok-read.ensures.gives.live; is = c.in_ok-read.ensures.gives.is }

pub returns-clause-keeps : goal.returns-clause-keeps
returns-clause-keeps c = keeps_table c.args.self.now c.requires.whole c.read_assertion.new.table c.in_ok-read.ensures.grows.stays c.in_ok-read.ensures.grows.table
