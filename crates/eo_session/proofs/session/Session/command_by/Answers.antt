use Rattle.std.proofs.Common.{List, ◌++◌, refl, sym, ap, subst, ◌∙◌}
use Rattle.std.specs.Prelude.{Ok}
use Rattle.eo_session.specs.Store.{state_of}
use Rattle.eo_session.specs.Numbered.{origin_of}
use Rattle.eo_session.specs.Commands.{step}
use Rattle.eo_session.specs.Stepping.{Standing}
use Rattle.eo_session.specs.State.{State}
use Rattle.eo_session.proofs.Sessions.{step-fault, step-ok}
use Rattle.eo_session.specs.Notes.{Seen, shown}
use Rattle.eo_session.proofs.Dispatch.{steps-refused}
use Rattle.eo_session.proofs.NamedValues.{counted-alike}
use Rattle.eo_session.proofs.session.Session.command_by.Goals as goal

pub returns-in-Ok-clause-steps : goal.returns-in-Ok-clause-steps
returns-in-Ok-clause-steps g c =
    let same = sym c.self.view_is in
    let from = origin_of c.args.from in
    let s = c.args.s.now in
    let kept = sym c.release.ensures.same in
    let new : State = state_of c.run_command.new.store in (
      ap (λ (x : Standing). x.ended) same ∙ c.if-self.false,
      ap (λ (x : Standing). step x.state from s) same ∙ ap (λ (st : State). step st from s) kept
          ∙ step-ok (state_of c.release.new.self) from s new c.in-Ok.next c.in-Ok.ensures.updates ∙ (λ i. Ok (record new { commands = sym c.saturating_add-self-inside.ensures i }, c.in-Ok.next)),
      c.if-self.false,
    )

pub returns-in-Err-clause-steps : goal.returns-in-Err-clause-steps
returns-in-Err-clause-steps g c =
    let same = sym c.self.view_is in
    let from = origin_of c.args.from in
    let s = c.args.s.now in
    steps-refused c.in-Err.e _ _ c.args.self.now _ (ap (λ (x : Standing). x.ended) same ∙ c.if-self.false) refl c.in-Err.ensures.updates
    (λ name h. ap (λ (x : Standing). step x.state from s) same ∙ ap (λ (st : State). step st from s) (sym c.release.ensures.same) ∙ step-fault (state_of c.release.new.self) from s name h)

pub run_command-requires : goal.run_command-requires
run_command-requires g c = c.release.ensures.settled.whole

pub returns-in-Ok-clause-alive : goal.returns-in-Ok-clause-alive
returns-in-Ok-clause-alive g c = c.alive_law.ensures ∙ sym (counted-alike (state_of c.run_command.new.store) c.saturating_add-self-inside.result)

pub returns-in-Ok-clause-sees : goal.returns-in-Ok-clause-sees
returns-in-Ok-clause-sees g c =
    let from = origin_of c.args.from in
    let same = ap (λ (st : State). shown st from c.args.bytes.now c.args.place c.args.s.now) c.release.ensures.same
    ∙ ap (λ (x : Standing). shown x.state from c.args.bytes.now c.args.place c.args.s.now) c.self.view_is in
    (λ l t. subst (λ (x : List Seen). g.O.Observer.tells c.run_command.new.observer (l ++ x)) same (c.in-Ok.ensures.sees l t))
