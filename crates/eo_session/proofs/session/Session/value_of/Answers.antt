use Rattle.std.proofs.Common.{refl, sym, ap, ◌∙◌}
use Rattle.eo_session.specs.Step.{value_named}
use Rattle.eo_session.specs.Stepping.{Standing}
use Rattle.eo_session.proofs.NamedValues.{value-refused}
use Rattle.eo_session.proofs.session.Session.value_of.Goals as goal

pub returns-in-Ok-clause-gives : goal.returns-in-Ok-clause-gives
returns-in-Ok-clause-gives c =
    let same = sym c.self.view_is in
    record {
      going = ap (λ (s : Standing). s.ended) same ∙ c.if-self.false;
      goes_on = c.if-self.false;
      is = ap (λ (s : Standing). value_named s.state c.args.name.now) same ∙ c.in-Ok.ensures.gives.is;
      value = c.in-Ok.ensures.value;
    }

pub returns-in-Err-clause-gives : goal.returns-in-Err-clause-gives
returns-in-Err-clause-gives c =
    let same = sym c.self.view_is in
    value-refused c.in-Err.e _ _ c.args.self.now _ (ap (λ (s : Standing). s.ended) same ∙ c.if-self.false) refl (ap (λ (s : Standing). value_named s.state c.args.name.now) same) c.in-Err.ensures.gives

pub returns-in-Ok-clause-state : goal.returns-in-Ok-clause-state
returns-in-Ok-clause-state c = c.run_name.ensures.same ∙ ap (λ (s : Standing). s.state) c.self.view_is

pub returns-in-Err-clause-state : goal.returns-in-Err-clause-state
returns-in-Err-clause-state c = c.run_name.ensures.same ∙ ap (λ (s : Standing). s.state) c.self.view_is
