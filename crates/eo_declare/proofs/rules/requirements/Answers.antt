use Rattle.std.proofs.Common.{◌≡◌, ◌++◌, [], ◌∷◌, length, map, All, ap, sym, subst, ◌∙◌}
use Rattle.std.specs.Prelude.{Ok}
use Rattle.std.proofs.lemmas.List.{map-append}
use Rattle.std.proofs.lemmas.List.Elements.{All-nil, All-append, All-cons}
use Rattle.eo_base.proofs.ChecksLemmas.{behind, behind-none}
use Rattle.eo_base.proofs.Answering.{fails}
use Rattle.eo_shape.specs.Reading.{read_pair as read_shape}
use Rattle.eo_sig.specs.Reading.{read_pair}
use Rattle.eo_term.proofs.Growing.{grows_refl, grows_on}
use Rattle.eo_names.specs.Worlds.{World, world_of}
use Rattle.eo_declare.specs.RuleParts.{requirement_in, requirements_in, PairBelow}
use Rattle.eo_declare.proofs.RuleLemmas.{pairs-next, pairs-refused, pairs-end, pairs-grown, pairs-more}
use Rattle.eo_declare.proofs.rules.requirements.Goals as goal

pub loop-shape-init : goal.loop-shape-init
loop-shape-init c =
    let t = c.args.table.now in
    let w = world_of t c.args.sig.now c.args.locals.now in
    let left = c.into_iter-shape-iterator.result in
    let all : left ≡ c.args.shapes.now = cc in
    record {
      left = sym (ap (λ qs. behind (map (read_pair t.trees) qs) (requirements_in w left)) c.new-pairs.ensures ∙ behind-none (requirements_in w left) ∙ ap (requirements_in w) all);
      live = subst (All (PairBelow (length t.trees))) (sym c.new-pairs.ensures) (All-nil (PairBelow (length t.trees)));
      grows = grows_refl t;
    }

pub requirement-requires : goal.requirement-requires
requirement-requires c = record { ready = (c.names_law.ensures.stays c.args.sig.now c.args.locals.now c.args.table.now c.loop-shape.table c.requires.ready c.loop-shape.invariant.grows).ready }

pub returns-in_err-pair-clause-gives : goal.returns-in_err-pair-clause-gives
returns-in_err-pair-clause-gives c =
    let w = world_of c.args.table.now c.args.sig.now c.args.locals.now in
    let same = (c.names_law.ensures.stays c.args.sig.now c.args.locals.now c.args.table.now c.loop-shape.table c.requires.ready c.loop-shape.invariant.grows).world in
    let done = map (read_pair c.loop-shape.table.trees) c.loop-shape.pairs in
    let q = read_shape c.in-Some.shape in
    let step = c.loop-shape.invariant.left ∙ ap (λ qs. behind done (requirements_in w qs)) c.in-Some.ensures.steps in
    fails _ _ _ _ _ _ _ c.from_residual.ensures.1 (λ f e. step ∙ pairs-refused w done q c.next.new.self f (ap (λ (u : World). requirement_in u q) (sym same) ∙ e)) c.in_err-pair.ensures.gives

pub loop-shape-preserved : goal.loop-shape-preserved
loop-shape-preserved c =
    let w = world_of c.args.table.now c.args.sig.now c.args.locals.now in
    let same = (c.names_law.ensures.stays c.args.sig.now c.args.locals.now c.args.table.now c.loop-shape.table c.requires.ready c.loop-shape.invariant.grows).world in
    let now = c.loop-shape.table in
    let new = c.requirement.new.table in
    let done = map (read_pair now.trees) c.loop-shape.pairs in
    let q = read_shape c.in-Some.shape in
    let pair = c.in_ok-pair.pair in
    let p = read_pair new.trees pair in
    let step = c.loop-shape.invariant.left ∙ ap (λ qs. behind done (requirements_in w qs)) c.in-Some.ensures.steps in
    let own : requirement_in w q ≡ Ok p = ap (λ (u : World). requirement_in u q) (sym same) ∙ c.in_ok-pair.ensures.gives.is in
    let g = c.requirement.ensures.grows.now in
    let grown = pairs-grown (length now.trees) (length new.trees) now.trees new.trees g.more_trees g.tree c.loop-shape.pairs c.loop-shape.invariant.live in
    let more : map (read_pair new.trees) c.push.new.self ≡ done ++ p ∷ [] =
    ap (map (read_pair new.trees)) c.in_ok-push.ensures.pushed ∙ map-append (read_pair new.trees) c.loop-shape.pairs (pair ∷ []) ∙ ap (λ qs. qs ++ p ∷ []) grown in
    let before = pairs-more (length now.trees) (length new.trees) now.trees new.trees g.more_trees g.tree c.loop-shape.pairs c.loop-shape.invariant.live in
    let n = length new.trees in
    record {
      left = step ∙ sym (pairs-next w done q c.next.new.self p own) ∙ ap (λ qs. behind qs (requirements_in w c.next.new.self)) (sym more);
      live = subst (All (PairBelow n)) (sym c.in_ok-push.ensures.pushed) (All-append (PairBelow n) c.loop-shape.pairs (pair ∷ []) before (All-cons (PairBelow n) pair [] c.in_ok-pair.ensures.gives.live (All-nil (PairBelow n))));
      grows = grows_on c.args.table.now now new c.loop-shape.invariant.grows c.requirement.ensures.grows;
    }

pub returns-clause-gives : goal.returns-clause-gives
returns-clause-gives c =
    let w = world_of c.args.table.now c.args.sig.now c.args.locals.now in
    let done = map (read_pair c.loop-shape.table.trees) c.loop-shape.pairs in
    record {
      live = c.loop-shape.invariant.live;
      is = c.loop-shape.invariant.left ∙ ap (λ qs. behind done (requirements_in w qs)) c.in-None.ensures.steps.0 ∙ pairs-end w done;
    }

pub returns-in_err-pair-clause-grows : goal.returns-in_err-pair-clause-grows
returns-in_err-pair-clause-grows c = grows_on c.args.table.now c.loop-shape.table c.requirement.new.table c.loop-shape.invariant.grows c.in_err-pair.ensures.grows

pub returns-in_err-push-clause-grows : goal.returns-in_err-push-clause-grows
returns-in_err-push-clause-grows c = grows_on c.args.table.now c.loop-shape.table c.requirement.new.table c.loop-shape.invariant.grows c.in_ok-pair.ensures.grows
