use Rattle.std.proofs.Common.{ℕ, ap, ◌∙◌, Option}
use Rattle.std.specs.Prelude.{Result}
use Rattle.eo_session.specs.Store.{state_of}
use Rattle.eo_session.specs.Step.{optional_value}
use Rattle.eo_session.specs.Using.{GivesOptional}
use Rattle.eo_session.specs.declared.refused.Refused.{Refused}
use Rattle.eo_session.proofs.Concluding.{optional-fault, optional-some}
use Rattle.eo_base.proofs.Answering.{at_exit}
use Rattle.eo_session.proofs.Sessions.{refuses_on}
use Rattle.eo_session.proofs.store.Store.optional_value.Goals as goal

pub returns-in_err-id-in-Some-clause-gives : goal.returns-in_err-id-in-Some-clause-gives
returns-in_err-id-in-Some-clause-gives c =
    let st = state_of c.args.self.now in
    let s = c.in-Some.s in
    let x = c.in_err-id-in-Some.field-0.0 in
    at_exit (λ (r : Result (Option ℕ) Refused). GivesOptional c.value.new.self r (optional_value st c.args.s.now)) c.from_residual.result x c.from_residual.ensures.1
    (refuses_on _ _ x c.in_err-id-in-Some.ensures.gives (λ f e. ap (optional_value st) c.in-Some.is ∙ optional-fault st s f e))

pub returns-in_ok-id-in-Some-clause-gives : goal.returns-in_ok-id-in-Some-clause-gives
returns-in_ok-id-in-Some-clause-gives c =
    let st = state_of c.args.self.now in
    record { live = c.in_ok-id-in-Some.ensures.gives.live; is = ap (optional_value st) c.in-Some.is ∙ optional-some st c.in-Some.s _ c.in_ok-id-in-Some.ensures.gives.is }
