use Rattle.std.proofs.Common.{◌≡◌, ◌<◌, ◌++◌, [], ◌∷◌, length, All, refl, arith, ap, sym, subst, ◌∙◌}
use Rattle.std.specs.Prelude.{Ok}
use Rattle.std.proofs.lemmas.List.{length-append}
use Rattle.std.proofs.lemmas.List.Elements.{All-nil}
use Rattle.eo_base.proofs.ChecksLemmas.{behind, behind-none}
use Rattle.eo_base.proofs.Answering.{fails}
use Rattle.eo_base.proofs.Elements.{push_same, push_below}
use Rattle.eo_term.proofs.Growing.{grows_refl, grows_on}
use Rattle.eo_term.specs.Terms.{tree_at}
use Rattle.eo_term.specs.Growth.{tree_in, trees_in}
use Rattle.eo_names.specs.Scopes.{read_file_kind}
use Rattle.eo_names.specs.Worlds.{World}
use Rattle.eo_elab.specs.Worlds.{meaning_in, world_in, in_file_kind}
use Rattle.eo_declare.specs.Worlds.{meanings_in}
use Rattle.eo_declare.proofs.ConstantLemmas.{meanings-next, meanings-refused, meanings-end}
use Rattle.eo_declare.proofs.constants.elaborate_terms.Goals as goal

pub loop-s-init : goal.loop-s-init
loop-s-init c =
    let t = c.args.table.now in
    let w = world_in t c.args.sig.now c.args.locals.now c.args.file_kind in
    let left = c.into_iter-s-iterator.result in
    let all : left ≡ c.args.terms.now = cc in
    let none = ap length c.new-ids.ensures in
    let whole = ap length all in
    record {
      count = omega (arith, none, whole);
      left = sym (ap (λ ids. behind (trees_in t ids) (meanings_in w left)) c.new-ids.ensures ∙ behind-none (meanings_in w left) ∙ ap (meanings_in w) all);
      live = subst (All (λ i. i < length t.trees)) (sym c.new-ids.ensures) (All-nil (λ i. i < length t.trees));
      grows = grows_refl t;
    }

pub elaborate_view-requires : goal.elaborate_view-requires
elaborate_view-requires c = record { ready = (c.names_law.ensures.stays c.args.sig.now c.args.locals.now c.args.table.now c.loop-s.table c.requires.ready c.loop-s.invariant.grows).ready }

pub returns-in_err-id-clause-gives : goal.returns-in_err-id-clause-gives
returns-in_err-id-clause-gives c =
    let w = world_in c.args.table.now c.args.sig.now c.args.locals.now c.args.file_kind in
    let same = ap (in_file_kind (read_file_kind c.args.file_kind)) (c.names_law.ensures.stays c.args.sig.now c.args.locals.now c.args.table.now c.loop-s.table c.requires.ready c.loop-s.invariant.grows).world in
    let done = trees_in c.loop-s.table c.loop-s.ids in
    let s = c.in-Some.s in
    let step = c.loop-s.invariant.left ∙ ap (λ ss. behind done (meanings_in w ss)) c.in-Some.ensures.steps in
    fails _ _ _ _ _ _ _ c.from_residual.ensures.1 (λ f e. step ∙ meanings-refused w.names w.locals done s c.next.new.self f (ap (λ (u : World). meaning_in u s) (sym same) ∙ e)) c.in_err-id.ensures.gives

pub loop-s-preserved : goal.loop-s-preserved
loop-s-preserved c =
    let w = world_in c.args.table.now c.args.sig.now c.args.locals.now c.args.file_kind in
    let same = ap (in_file_kind (read_file_kind c.args.file_kind)) (c.names_law.ensures.stays c.args.sig.now c.args.locals.now c.args.table.now c.loop-s.table c.requires.ready c.loop-s.invariant.grows).world in
    let now = c.loop-s.table in
    let new = c.elaborate_view.new.table in
    let done = trees_in now c.loop-s.ids in
    let s = c.in-Some.s in
    let id = c.in_ok-id.id in
    let step = c.loop-s.invariant.left ∙ ap (λ ss. behind done (meanings_in w ss)) c.in-Some.ensures.steps in
    let own : meaning_in w s ≡ Ok (tree_in new id) = ap (λ (u : World). meaning_in u s) (sym same) ∙ c.in_ok-id.ensures.gives.is in
    let more : trees_in new c.push.new.self ≡ done ++ tree_in new id ∷ [] =
    ap (trees_in new) c.in_ok-push.ensures.pushed ∙ push_same (length now.trees) (tree_at now.trees) (tree_at new.trees) c.elaborate_view.ensures.grows.now.tree c.loop-s.ids id (tree_in new id) c.loop-s.invariant.live refl in
    let long = ap length c.in_ok-push.ensures.pushed ∙ length-append c.loop-s.ids (id ∷ []) in
    let first = ap length c.in-Some.ensures.steps in
    record {
      count = omega (arith, long, first, c.loop-s.invariant.count);
      left = step ∙ sym (meanings-next w.names w.locals done s c.next.new.self (tree_in new id) own) ∙ ap (λ us. behind us (meanings_in w c.next.new.self)) (sym more);
      live = subst (All (λ i. i < length new.trees)) (sym c.in_ok-push.ensures.pushed) (push_below (length now.trees) (length new.trees) id c.loop-s.ids c.elaborate_view.ensures.grows.now.more_trees c.in_ok-id.ensures.gives.live c.loop-s.invariant.live);
      grows = grows_on c.args.table.now now new c.loop-s.invariant.grows c.elaborate_view.ensures.grows;
    }

pub returns-clause-gives : goal.returns-clause-gives
returns-clause-gives c =
    let w = world_in c.args.table.now c.args.sig.now c.args.locals.now c.args.file_kind in
    let done = trees_in c.loop-s.table c.loop-s.ids in
    record { live = c.loop-s.invariant.live; is = c.loop-s.invariant.left ∙ ap (λ ss. behind done (meanings_in w ss)) c.in-None.ensures.steps.0 ∙ meanings-end w.names w.locals done }

pub returns-clause-count : goal.returns-clause-count
returns-clause-count c =
    let none = ap length c.in-None.ensures.steps.0 in
    omega (arith, none, c.loop-s.invariant.count)

pub returns-in_err-id-clause-grows : goal.returns-in_err-id-clause-grows
returns-in_err-id-clause-grows c = grows_on c.args.table.now c.loop-s.table c.elaborate_view.new.table c.loop-s.invariant.grows c.in_err-id.ensures.grows

pub returns-in_err-push-clause-grows : goal.returns-in_err-push-clause-grows
returns-in_err-push-clause-grows c = grows_on c.args.table.now c.loop-s.table c.elaborate_view.new.table c.loop-s.invariant.grows c.in_ok-id.ensures.grows
