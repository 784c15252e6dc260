use Rattle.std.proofs.Common.{sym, ap, ◌∙◌}
use Rattle.eo_session.specs.Store.{state_of}
use Rattle.eo_session.specs.State.{end_fault}
use Rattle.eo_session.specs.Stepping.{Standing}
use Rattle.eo_session.proofs.Sessions.{end-in_scope, end-no_reference, end-no_refutation, end-correct}
use Rattle.eo_session.proofs.session.Session.end.Goals as goal

pub returns-then-is_in_scope : goal.returns-then-is_in_scope
returns-then-is_in_scope c = ap (λ (s : Standing). end_fault s.state) (sym c.self.view_is) ∙ end-in_scope (state_of c.self.inside.store) (sym c.is_in_scope.ensures ∙ c.if-is_in_scope.true)

pub returns-then-not-self : goal.returns-then-not-self
returns-then-not-self c =
    ap (λ (s : Standing). end_fault s.state) (sym c.self.view_is) ∙ end-no_reference (state_of c.self.inside.store) (sym c.is_in_scope.ensures ∙ c.if-is_in_scope.false) c.if-not-self.true

pub returns-then-not-refutes : goal.returns-then-not-refutes
returns-then-not-refutes c =
    ap (λ (s : Standing). end_fault s.state) (sym c.self.view_is)
    ∙ end-no_refutation (state_of c.self.inside.store) (sym c.is_in_scope.ensures ∙ c.if-is_in_scope.false) c.if-not-self.false (sym c.refutes.ensures ∙ c.if-not-refutes.true)

pub returns-then-self : goal.returns-then-self
returns-then-self c =
    let same = sym c.self.view_is in (
      ap (λ (s : Standing). end_fault s.state) same
          ∙ end-correct (state_of c.self.inside.store) (sym c.is_in_scope.ensures ∙ c.if-is_in_scope.false) c.if-not-self.false (sym c.refutes.ensures ∙ c.if-not-refutes.false),
      ap (λ (s : Standing). s.state.sorry) same ∙ c.if-self.true,
    )

pub returns : goal.returns
returns c =
    let same = sym c.self.view_is in (
      ap (λ (s : Standing). end_fault s.state) same
          ∙ end-correct (state_of c.self.inside.store) (sym c.is_in_scope.ensures ∙ c.if-is_in_scope.false) c.if-not-self.false (sym c.refutes.ensures ∙ c.if-not-refutes.false),
      ap (λ (s : Standing). s.state.sorry) same ∙ c.if-self.false,
    )

pub refutes-requires : goal.refutes-requires
refutes-requires c = c.self.invariant (ap (λ (s : Standing). s.ended) c.self.view_is ∙ c.requires)
