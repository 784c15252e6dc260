use Rattle.std.proofs.Common.{◌≡◌, ℕ, List, [], ◌∷◌, ◌++◌, ap, sym, subst, ◌∙◌}
use Rattle.std.specs.Prelude.{Result}
use Rattle.eo_base.proofs.ChecksLemmas.{behind, behind-none}
use Rattle.eo_term.specs.Growth.{tree_in, trees_in}
use Rattle.eo_session.specs.Store.{state_of}
use Rattle.eo_session.specs.Step.{premises}
use Rattle.eo_session.specs.Using.{AreValueIds, GivesIds}
use Rattle.eo_session.specs.declared.refused.Refused.{Refused}
use Rattle.eo_session.proofs.Concluding.{premises-next, premises-fault, premises-end}
use Rattle.eo_base.proofs.Answering.{at_exit}
use Rattle.eo_session.proofs.Sessions.{refuses_on}
use Rattle.eo_session.proofs.Used.{no_ids, ids_push, trees_more, since_self}
use Rattle.eo_session.proofs.store.Store.premises.Goals as goal

pub loop-name-init : goal.loop-name-init
loop-name-init c =
    let t = c.args.self.now.table in
    let st = state_of c.args.self.now in
    let left = c.into_iter-name-iterator.result in
    let all : left ≡ c.args.names.now = cc in
    record {
      left = sym (ap (λ ids. behind (trees_in t ids) (premises st left)) c.new-ids.ensures ∙ behind-none (premises st left) ∙ ap (premises st) all);
      ids = subst (AreValueIds t) (sym c.new-ids.ensures) (no_ids t);
    }

pub returns-in_err-id : goal.returns-in_err-id
returns-in_err-id c =
    let h = c.args.self.now in
    let st = state_of h in
    let done = trees_in h.table c.loop-name.ids in
    let step = c.loop-name.invariant.left ∙ ap (λ ns. behind done (premises st ns)) c.in-Some.ensures.steps in
    let x = c.in_err-id.field-0.0 in
    at_exit (λ (r : Result (List ℕ) Refused). GivesIds h r (premises st c.args.names.now)) c.from_residual.result x c.from_residual.ensures.1
    (refuses_on _ _ x c.in_err-id.ensures.gives (λ f e. step ∙ premises-fault st done c.in-Some.name.now c.next.new.self f e))

pub loop-name-preserved : goal.loop-name-preserved
loop-name-preserved c =
    let h = c.args.self.now in
    let t = h.table in
    let st = state_of h in
    let ids = c.loop-name.ids in
    let done = trees_in t ids in
    let id = c.in_ok-id.id in
    let step = c.loop-name.invariant.left ∙ ap (λ ns. behind done (premises st ns)) c.in-Some.ensures.steps in
    let more : trees_in t c.push.new.self ≡ done ++ tree_in t id ∷ [] = ap (trees_in t) c.in_ok-push.ensures.pushed ∙ trees_more t t (since_self t) ids c.loop-name.invariant.ids id in
    record {
      left = step ∙ sym (premises-next st done c.in-Some.name.now c.next.new.self (tree_in t id) c.in_ok-id.ensures.gives.is) ∙ ap (λ us. behind us (premises st c.next.new.self)) (sym more);
      ids = subst (AreValueIds t) (sym c.in_ok-push.ensures.pushed) (ids_push t t (since_self t) ids c.loop-name.invariant.ids id c.in_ok-id.ensures.gives.live c.in_ok-id.ensures.value);
    }

pub returns : goal.returns
returns c =
    let st = state_of c.args.self.now in
    let done = trees_in c.args.self.now.table c.loop-name.ids in
    record { live = c.loop-name.invariant.ids; is = c.loop-name.invariant.left ∙ ap (λ ns. behind done (premises st ns)) c.in-None.ensures.steps.0 ∙ premises-end st done }
