use Rattle.std.proofs.Common.{Ok, arith, sym, ap, ◌∙◌}
use Rattle.std.specs.Prelude.{Result, ℕ}
use Rattle.eo_term.specs.Terms.{tree_at}
use Rattle.eo_session.specs.Store.{state_of}
use Rattle.eo_session.specs.State.{State}
use Rattle.eo_session.specs.Step.{typed, type_value}
use Rattle.eo_session.specs.Stepping.{GivesTerm}
use Rattle.eo_session.specs.declared.refused.Refused.{Refused}
use Rattle.eo_base.proofs.Answering.{at_exit}
use Rattle.eo_session.proofs.Sessions.{type-fault, type-kind, type-other, type-ok, refuses_on, value_later}
use Rattle.eo_session.proofs.Used.{keeps_on}
use Rattle.eo_session.proofs.store.Store.type_value.Goals as goal

pub returns-in_err-value-clause-gives : goal.returns-in_err-value-clause-gives
returns-in_err-value-clause-gives c =
    let h = c.args.self.now in
    let st = state_of h in
    let t = tree_at h.table.trees c.args.id in
    let x = c.in_err-value.field-0.0 in
    at_exit (λ (r : Result ℕ Refused). GivesTerm c.evaluate.new.self r (type_value st t)) c.from_residual.result x c.from_residual.ensures.1 (refuses_on _ _ x c.in_err-value.ensures.gives (type-fault st t))

pub returns-in_err-has_kind-clause-gives : goal.returns-in_err-has_kind-clause-gives
returns-in_err-has_kind-clause-gives c =
    let h = c.args.self.now in
    let st = state_of h in
    let t = tree_at h.table.trees c.args.id in
    let v = tree_at c.evaluate.new.self.table.trees c.in_ok-value.value in
    let same = ap (λ (st : State). typed st v) (sym c.in_ok-value.ensures.keeps.same) in
    let x = c.in_err-has_kind.field-0.0 in
    at_exit (λ (r : Result ℕ Refused). GivesTerm c.has_kind.new.self r (type_value st t)) c.from_residual-in_err-has_kind.result x c.from_residual-in_err-has_kind.ensures.1
    (refuses_on _ _ x c.in_err-has_kind.ensures.gives (λ name h. type-kind st t v name c.in_ok-value.ensures.gives.is (same ∙ h)))

pub returns-then-not-branch-clause-gives : goal.returns-then-not-branch-clause-gives
returns-then-not-branch-clause-gives c =
    let h = c.args.self.now in
    let v = tree_at c.evaluate.new.self.table.trees c.in_ok-value.value in
    let same = ap (λ (st : State). typed st v) (sym c.in_ok-value.ensures.keeps.same) in
    let kind = c.in_ok-has_kind.ensures.gives in
    (type-other (state_of h) (tree_at h.table.trees c.args.id) v kind.0 c.in_ok-value.ensures.gives.is (same ∙ kind.1) (kind.2 ∙ c.if-not-branch.true), λ q. absurd cc)

pub returns-clause-gives : goal.returns-clause-gives
returns-clause-gives c =
    let h = c.args.self.now in
    let v = tree_at c.evaluate.new.self.table.trees c.in_ok-value.value in
    let same = ap (λ (st : State). typed st v) (sym c.in_ok-value.ensures.keeps.same) in
    let kind = c.in_ok-has_kind.ensures.gives in
    let grows = c.in_ok-has_kind.ensures.keeps.grows.now in
    record {
      live = omega (arith, c.in_ok-value.ensures.gives.live, grows.more_trees);
      is =
          type-ok (state_of h) (tree_at h.table.trees c.args.id) v kind.0 c.in_ok-value.ensures.gives.is (same ∙ kind.1) (kind.2 ∙ c.if-not-branch.false)
          ∙ ap (λ t. Ok t) (sym (grows.tree c.in_ok-value.value c.in_ok-value.ensures.gives.live));
    }

pub returns-clause-value : goal.returns-clause-value
returns-clause-value c = value_later c.evaluate.new.self.table c.has_kind.new.self.table c.in_ok-value.value c.in_ok-has_kind.ensures.keeps.grows c.in_ok-value.ensures.value

pub has_kind-requires-clause-whole : goal.has_kind-requires-clause-whole
has_kind-requires-clause-whole c = c.in_ok-value.ensures.keeps.whole

pub has_kind-requires-clause-live : goal.has_kind-requires-clause-live
has_kind-requires-clause-live c = c.in_ok-value.ensures.gives.live

pub returns-in_err-value-clause-keeps : goal.returns-in_err-value-clause-keeps
returns-in_err-value-clause-keeps c = c.in_err-value.ensures.keeps

pub returns-in_err-has_kind-clause-keeps : goal.returns-in_err-has_kind-clause-keeps
returns-in_err-has_kind-clause-keeps c = keeps_on c.args.self.now c.evaluate.new.self c.has_kind.new.self c.in_ok-value.ensures.keeps c.in_err-has_kind.ensures.keeps

pub returns-then-not-branch-clause-keeps : goal.returns-then-not-branch-clause-keeps
returns-then-not-branch-clause-keeps c = keeps_on c.args.self.now c.evaluate.new.self c.has_kind.new.self c.in_ok-value.ensures.keeps c.in_ok-has_kind.ensures.keeps

pub returns-clause-keeps : goal.returns-clause-keeps
returns-clause-keeps c = keeps_on c.args.self.now c.evaluate.new.self c.has_kind.new.self c.in_ok-value.ensures.keeps c.in_ok-has_kind.ensures.keeps
