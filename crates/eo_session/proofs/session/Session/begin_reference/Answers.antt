use Rattle.std.proofs.Common.{refl, sym, ap, ◌∙◌, true}
use Rattle.eo_session.specs.Store.{state_of}
use Rattle.eo_session.specs.State.{State, begin_reference}
use Rattle.eo_session.specs.Stepping.{Standing}
use Rattle.eo_session.proofs.Sessions.{begin-second, begin-ok}
use Rattle.eo_session.proofs.NamedValues.{begun-alike}
use Rattle.eo_session.proofs.session.Session.begin_reference.Goals as goal

pub returns-then-self-2-clause-steps : goal.returns-then-self-2-clause-steps
returns-then-self-2-clause-steps c =
    let same = sym c.self.view_is in (
      ap (λ (s : Standing). s.ended) same ∙ c.if-self.false,
      ap (λ (s : Standing). begin_reference s.state) same ∙ ap begin_reference (sym c.release.ensures.same) ∙ begin-second (state_of c.release.new.self) c.if-self-2.true,
      refl,
    )

pub returns-clause-steps : goal.returns-clause-steps
returns-clause-steps c =
    let same = sym c.self.view_is in (
      ap (λ (s : Standing). s.ended) same ∙ c.if-self.false,
      ap (λ (s : Standing). begin_reference s.state) same ∙ ap begin_reference (sym c.release.ensures.same) ∙ begin-ok (state_of c.release.new.self) c.if-self-2.false,
      c.if-self.false,
    )

pub returns-then-self-2-clause-counted : goal.returns-then-self-2-clause-counted
returns-then-self-2-clause-counted c = ap (λ (st : State). st.commands) c.release.ensures.same ∙ ap (λ (s : Standing). s.state.commands) c.self.view_is

pub returns-clause-counted : goal.returns-clause-counted
returns-clause-counted c = ap (λ (st : State). st.commands) c.release.ensures.same ∙ ap (λ (s : Standing). s.state.commands) c.self.view_is

pub returns-clause-alive : goal.returns-clause-alive
returns-clause-alive c = c.alive_law.ensures ∙ sym (begun-alike (state_of c.release.new.self) true)
