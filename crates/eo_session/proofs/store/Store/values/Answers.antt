use Rattle.std.proofs.Common.{◌≡◌, ℕ, List, [], ◌∷◌, ◌++◌, ap, sym, subst, ◌∙◌}
use Rattle.std.specs.Prelude.{Ok, Result}
use Rattle.eo_base.proofs.ChecksLemmas.{behind, behind-none}
use Rattle.eo_term.specs.Growth.{tree_in, trees_in}
use Rattle.eo_session.specs.Store.{state_of}
use Rattle.eo_session.specs.State.{State}
use Rattle.eo_session.specs.Step.{value, values}
use Rattle.eo_session.specs.Using.{AreValueIds, GivesIds}
use Rattle.eo_session.specs.declared.refused.Refused.{Refused}
use Rattle.eo_session.proofs.Concluding.{values-next, values-fault, values-end}
use Rattle.eo_base.proofs.Answering.{at_exit}
use Rattle.eo_session.proofs.Sessions.{refuses_on}
use Rattle.eo_session.proofs.Used.{no_ids, ids_push, trees_more, keeps_self, keeps_on}
use Rattle.eo_session.proofs.store.Store.values.Goals as goal

pub loop-s-init : goal.loop-s-init
loop-s-init c =
    let t = c.args.self.now.table in
    let st = state_of c.args.self.now in
    let left = c.into_iter-s-iterator.result in
    let all : left ≡ c.args.terms.now = cc in
    record {
      left = sym (ap (λ ids. behind (trees_in t ids) (values st left)) c.new-ids.ensures ∙ behind-none (values st left) ∙ ap (values st) all);
      ids = subst (AreValueIds t) (sym c.new-ids.ensures) (no_ids t);
      keeps = keeps_self c.args.self.now c.requires;
    }

pub value-requires : goal.value-requires
value-requires c = c.loop-s.invariant.keeps.whole

pub returns-in_err-id-clause-gives : goal.returns-in_err-id-clause-gives
returns-in_err-id-clause-gives c =
    let h = c.loop-s.self in
    let st = state_of c.args.self.now in
    let done = trees_in h.table c.loop-s.ids in
    let s = c.in-Some.s in
    let step = c.loop-s.invariant.left ∙ ap (λ ss. behind done (values st ss)) c.in-Some.ensures.steps in
    let same = c.loop-s.invariant.keeps.same in
    let x = c.in_err-id.field-0.0 in
    at_exit (λ (r : Result (List ℕ) Refused). GivesIds c.value.new.self r (values st c.args.terms.now)) c.from_residual.result x c.from_residual.ensures.1
    (refuses_on _ _ x c.in_err-id.ensures.gives (λ f e. step ∙ values-fault st done s c.next.new.self f (ap (λ (z : State). value z s) (sym same) ∙ e)))

pub returns-in_err-id-clause-keeps : goal.returns-in_err-id-clause-keeps
returns-in_err-id-clause-keeps c = keeps_on c.args.self.now c.loop-s.self c.value.new.self c.loop-s.invariant.keeps c.in_err-id.ensures.keeps

pub loop-s-preserved : goal.loop-s-preserved
loop-s-preserved c =
    let h = c.loop-s.self in
    let st = state_of c.args.self.now in
    let now = h.table in
    let new = c.value.new.self.table in
    let ids = c.loop-s.ids in
    let done = trees_in now ids in
    let s = c.in-Some.s in
    let id = c.in_ok-id.id in
    let step = c.loop-s.invariant.left ∙ ap (λ ss. behind done (values st ss)) c.in-Some.ensures.steps in
    let own : value st s ≡ Ok (tree_in new id) = ap (λ (z : State). value z s) (sym c.loop-s.invariant.keeps.same) ∙ c.in_ok-id.ensures.gives.is in
    let since = c.in_ok-id.ensures.keeps.grows.now in
    let more : trees_in new c.push.new.self ≡ done ++ tree_in new id ∷ [] = ap (trees_in new) c.in_ok-push.ensures.pushed ∙ trees_more now new since ids c.loop-s.invariant.ids id in
    record {
      left = step ∙ sym (values-next st done s c.next.new.self (tree_in new id) own) ∙ ap (λ us. behind us (values st c.next.new.self)) (sym more);
      ids = subst (AreValueIds new) (sym c.in_ok-push.ensures.pushed) (ids_push now new since ids c.loop-s.invariant.ids id c.in_ok-id.ensures.value.live c.in_ok-id.ensures.value.value);
      keeps = keeps_on c.args.self.now h c.value.new.self c.loop-s.invariant.keeps c.in_ok-id.ensures.keeps;
    }

pub returns-in_err-push-clause-keeps : goal.returns-in_err-push-clause-keeps
returns-in_err-push-clause-keeps c = keeps_on c.args.self.now c.loop-s.self c.value.new.self c.loop-s.invariant.keeps c.in_ok-id.ensures.keeps

pub returns-clause-gives : goal.returns-clause-gives
returns-clause-gives c =
    let st = state_of c.args.self.now in
    let done = trees_in c.loop-s.self.table c.loop-s.ids in
    record { live = c.loop-s.invariant.ids; is = c.loop-s.invariant.left ∙ ap (λ ss. behind done (values st ss)) c.in-None.ensures.steps.0 ∙ values-end st done }

pub returns-clause-keeps : goal.returns-clause-keeps
returns-clause-keeps c = c.loop-s.invariant.keeps
