use Rattle.std.specs.Prelude.{Result}
use Rattle.eo_base.proofs.Answering.{at_exit}
use Rattle.eo_shape.specs.Reading.{read_command}
use Rattle.eo_session.specs.Decisions.{placed_decision}
use Rattle.eo_session.specs.Deciding.{DecidesNext, read_effect}
use Rattle.eo_session.specs.Store.{state_of}
use Rattle.eo_session.specs.Numbered.{origin_of}
use Rattle.eo_session.specs.declared.effects.Decided.{Decided}
use Rattle.eo_session.specs.declared.refused.Refused.{Refused}
use Rattle.eo_session.proofs.Sessions.{placed-fault, placed-ok, placed-stops, refuses_on}
use Rattle.eo_session.proofs.store.Store.decide.Goals as goal

pub returns-in_err-effect-clause-decides : goal.returns-in_err-effect-clause-decides
returns-in_err-effect-clause-decides c =
    let st = state_of c.args.self.now in
    let from = origin_of c.args.from in
    let k = read_command c.args.command.now in
    let x = c.in_err-effect.field-0.0 in
    at_exit (λ (r : Result Decided Refused). DecidesNext c.decide_placed.new.self r (placed_decision st from k)) c.from_residual.result x c.from_residual.ensures.1
    (refuses_on _ (placed_decision st from k) x c.in_err-effect.ensures.decides (placed-fault st from k))

pub returns-in_err-next-clause-decides : goal.returns-in_err-next-clause-decides
returns-in_err-next-clause-decides c =
    let st = state_of c.args.self.now in
    let from = origin_of c.args.from in
    let k = read_command c.args.command.now in
    let new = c.decide_placed.new.self in
    let x = c.in_err-next.field-0.0 in
    let e = read_effect new.table c.in_ok-effect.effect in
    at_exit (λ (r : Result Decided Refused). DecidesNext new r (placed_decision st from k)) c.from_residual-in_err-next.result x c.from_residual-in_err-next.ensures.1
    (refuses_on _ (placed_decision st from k) x c.in_err-next.ensures (placed-stops st from k (state_of new) c.in_ok-effect.ensures.keeps.same e c.in_ok-effect.ensures.decides.is))

pub returns-clause-decides : goal.returns-clause-decides
returns-clause-decides c =
    let st = state_of c.args.self.now in
    let from = origin_of c.args.from in
    let k = read_command c.args.command.now in
    let new = c.decide_placed.new.self in
    let told = c.in_ok-effect.ensures.decides in
    record { live = told.live; is = placed-ok st from k (state_of new) c.in_ok-effect.ensures.keeps.same (read_effect new.table c.in_ok-effect.effect) told.is c.in_ok-next.next c.in_ok-next.ensures }
