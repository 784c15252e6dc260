use Rattle.std.proofs.Common.{ℕ, sym, ap, ◌∙◌}
use Rattle.std.specs.Prelude.{Result}
use Rattle.eo_term.specs.Terms.{tree_at}
use Rattle.eo_session.specs.Store.{state_of}
use Rattle.eo_session.specs.State.{State, is_asserted}
use Rattle.eo_session.specs.Stepping.{GivesTerm}
use Rattle.eo_session.specs.Using.{asserted_formula}
use Rattle.eo_session.specs.declared.refused.Refused.{Refused}
use Rattle.eo_base.proofs.Answering.{at_exit}
use Rattle.eo_session.proofs.Sessions.{stated-fault, stated-no_reference, stated-not_asserted, stated-ok, refuses_on}
use Rattle.eo_session.proofs.store.Store.asserted_formula.Goals as goal

pub returns-in_err-value-clause-gives : goal.returns-in_err-value-clause-gives
returns-in_err-value-clause-gives c =
    let st = state_of c.args.self.now in
    let s = c.args.s.now in
    let x = c.in_err-value.field-0.0 in
    at_exit (λ (r : Result ℕ Refused). GivesTerm c.formula.new.self r (asserted_formula st s)) c.from_residual.result x c.from_residual.ensures.1
    (refuses_on _ _ x c.in_err-value.ensures.gives (stated-fault st s))

pub returns-then-not-self-clause-gives : goal.returns-then-not-self-clause-gives
returns-then-not-self-clause-gives c =
    let same = c.in_ok-value.ensures.keeps.same in
    (stated-no_reference (state_of c.args.self.now) c.args.s.now _ c.in_ok-value.ensures.gives.is (ap (λ (x : State). x.has_reference) (sym same) ∙ c.if-not-self.true), λ e. absurd cc)

pub returns-then-not-is_asserted-clause-gives : goal.returns-then-not-is_asserted-clause-gives
returns-then-not-is_asserted-clause-gives c =
    let same = c.in_ok-value.ensures.keeps.same in
    let v = tree_at c.formula.new.self.table.trees c.in_ok-value.value in (
      stated-not_asserted (state_of c.args.self.now) c.args.s.now v c.in_ok-value.ensures.gives.is (ap (λ (x : State). x.has_reference) (sym same) ∙ c.if-not-self.false)
          (ap (λ (x : State). is_asserted x v) (sym same) ∙ sym c.is_asserted.ensures ∙ c.if-not-is_asserted.true),
      λ e. absurd cc,
    )

pub returns-clause-gives : goal.returns-clause-gives
returns-clause-gives c =
    let same = c.in_ok-value.ensures.keeps.same in
    let v = tree_at c.formula.new.self.table.trees c.in_ok-value.value in
    record {
      live = c.in_ok-value.ensures.gives.live;
      is = stated-ok (state_of c.args.self.now) c.args.s.now v c.in_ok-value.ensures.gives.is (ap (λ (x : State). x.has_reference) (sym same) ∙ c.if-not-self.false)
          (ap (λ (x : State). is_asserted x v) (sym same) ∙ sym c.is_asserted.ensures ∙ c.if-not-is_asserted.false);
    }
