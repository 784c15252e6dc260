use Rattle.std.proofs.Common.{◌≡◌, ℕ, ◌<◌, ◌++◌, ◌∷◌, [], All, length, Some, nat_eq, if◌then◌else◌, refl, sym, ap, ◌∙◌, subst, arith}
use Rattle.std.proofs.lemmas.List.Elements.{All-nil, All-cons, All-push}
use Rattle.std.proofs.lemmas.Option.{none-some}
use Rattle.eo_base.proofs.Elements.{all_first, all_last}
use Rattle.eo_term.specs.Memo.{told, TellsOnly}
use Rattle.eo_term.specs.Walk.{Begins, Finishes}
use Rattle.eo_term.specs.Growth.{tree_in}
use Rattle.eo_type.specs.Types.{settle}
use Rattle.eo_type.specs.Outcomes.{IsTyped}
use Rattle.eo_type.specs.Steps.{IsSettled, IsNext, IsStep}
use Rattle.eo_type.proofs.Walk.{gives_stop}
use Rattle.eo_term.proofs.Growing.{grows_refl, grows_on}
use Rattle.eo_type.proofs.SettleSteps.{StopsAll, settles_grown, step_stops, step_part, step_made, step_kept}
use Rattle.eo_type.proofs.settling.settle_walk.Goals as goal

pub settle_node-requires-clause-live : goal.settle_node-requires-clause-live
settle_node-requires-clause-live c =
    let i = c.loop-made.invariant in
    let walks = c.walk_law.ensures (length c.args.table.now.trees) c.args.walk.now.top in
    omega (arith, walks.live c.loop-made.walk i.begun, c.top.ensures, i.grows.now.more_trees)

pub settle_node-requires-clause-memo : goal.settle_node-requires-clause-memo
settle_node-requires-clause-memo c = subst (TellsOnly (IsSettled c.loop-made.table)) (sym c.memo.ensures) c.loop-made.invariant.memo

pub returns-in_err-made : goal.returns-in_err-made
returns-in_err-made c =
    let i = c.loop-made.invariant in
    let walks = c.walk_law.ensures (length c.args.table.now.trees) c.args.walk.now.top in
    let leads : StopsAll c.args.table.now c.args.walk.now.top c.top.result = subst (StopsAll c.args.table.now c.args.walk.now.top) (sym c.top.ensures) (all_last (StopsAll c.args.table.now c.args.walk.now.top) c.loop-made.walk.waiting c.loop-made.walk.top i.leads) in
    let live : c.top.result < length c.args.table.now.trees = subst (λ k. k < length c.args.table.now.trees) (sym c.top.ensures) (walks.live c.loop-made.walk i.begun) in
    record {
      gives = gives_stop _ _ _ _ c.from_residual.ensures.1 (step_stops c.args.table.now c.loop-made.table c.loop-made.table c.args.walk.now.top c.top.result i.grows.now leads live c.in_err-made.field-0.0 c.in_err-made.ensures.gives);
      grows = grows_on c.args.table.now c.loop-made.table c.settle_node.new.table c.loop-made.invariant.grows c.settle_node.ensures.grows;
    }

pub loop-made-smaller-else-not-branch : goal.loop-made-smaller-else-not-branch
loop-made-smaller-else-not-branch c =
    let next : Finishes c.loop-made.walk c.in-Made.made c.finish.new.self = c.in_ok-finish-in-Made.ensures.next c.if-not-branch.false in
    ((c.walk_law.ensures (length c.args.table.now.trees) c.args.walk.now.top).rest c.loop-made.walk c.finish.new.self c.in-Made.made c.loop-made.invariant.begun next).less

pub loop-made-preserved-else-not-branch : goal.loop-made-preserved-else-not-branch
loop-made-preserved-else-not-branch c =
    let i = c.loop-made.invariant in
    let walks = c.walk_law.ensures (length c.args.table.now.trees) c.args.walk.now.top in
    let leads : StopsAll c.args.table.now c.args.walk.now.top c.top.result = subst (StopsAll c.args.table.now c.args.walk.now.top) (sym c.top.ensures) (all_last (StopsAll c.args.table.now c.args.walk.now.top) c.loop-made.walk.waiting c.loop-made.walk.top i.leads) in
    let live : c.top.result < length c.args.table.now.trees = subst (λ k. k < length c.args.table.now.trees) (sym c.top.ensures) (walks.live c.loop-made.walk i.begun) in
    let next : Finishes c.loop-made.walk c.in-Made.made c.finish.new.self = c.in_ok-finish-in-Made.ensures.next c.if-not-branch.false in
    let made : IsTyped c.settle_node.new.table (settle (tree_in c.loop-made.table c.top.result)) c.in-Made.made = subst (IsStep c.loop-made.table c.memo.result.now c.top.result c.settle_node.new.table) c.in-Made.is c.in_ok-made.ensures.gives in
    let now = c.finish.new.self.memo in
    let before = c.loop-made.walk.memo in
    let kept = subst (λ (k : ℕ). (j : ℕ) → told now j ≡ (if nat_eq k j then Some c.in-Made.made else told before j)) (sym c.top.ensures) next.memo in
    record {
      begun = (walks.rest c.loop-made.walk c.finish.new.self c.in-Made.made i.begun next).goes;
      leads = subst (All (StopsAll c.args.table.now c.args.walk.now.top)) next.waiting (all_first (StopsAll c.args.table.now c.args.walk.now.top) c.loop-made.walk.waiting (c.loop-made.walk.top ∷ []) i.leads);
      memo = step_kept c.args.table.now c.loop-made.table c.settle_node.new.table c.args.walk.now.top c.top.result i.grows.now leads live c.in-Made.made before now c.settle_node.ensures.grows.now kept i.memo made;
      grows = grows_on c.args.table.now c.loop-made.table c.settle_node.new.table i.grows c.settle_node.ensures.grows;
    }

pub loop-made-preserved : goal.loop-made-preserved
loop-made-preserved c =
    let i = c.loop-made.invariant in
    let walks = c.walk_law.ensures (length c.args.table.now.trees) c.args.walk.now.top in
    let leads : StopsAll c.args.table.now c.args.walk.now.top c.top.result = subst (StopsAll c.args.table.now c.args.walk.now.top) (sym c.top.ensures) (all_last (StopsAll c.args.table.now c.args.walk.now.top) c.loop-made.walk.waiting c.loop-made.walk.top i.leads) in
    let live : c.top.result < length c.args.table.now.trees = subst (λ k. k < length c.args.table.now.trees) (sym c.top.ensures) (walks.live c.loop-made.walk i.begun) in
    let begins : Begins c.loop-made.walk c.in-Part.part c.begin.new.self = c.in_ok-begin-in-Part.ensures in
    let next : IsNext c.loop-made.table c.memo.result.now c.top.result c.in-Part.part = subst (IsStep _ _ _ _) c.in-Part.is c.in_ok-made.ensures.gives in
    let new = c.settle_node.new.table in
    record {
      begun = (walks.part c.loop-made.walk c.begin.new.self c.in-Part.part i.begun begins (omega (arith, next.older, c.top.ensures)) (ap (λ m. told m c.in-Part.part) (sym c.memo.ensures) ∙ next.untold)).goes;
      leads = subst (All (StopsAll c.args.table.now c.args.walk.now.top)) (λ k. sym begins.waiting k ++ sym begins.top k ∷ [])
          (All-push (StopsAll c.args.table.now c.args.walk.now.top) (c.loop-made.walk.waiting ++ c.loop-made.walk.top ∷ []) c.in-Part.part i.leads (step_part c.args.table.now c.loop-made.table new c.args.walk.now.top c.top.result i.grows.now leads live c.memo.result.now c.in-Part.part next));
      memo = subst (TellsOnly (IsSettled new)) (sym begins.memo) (settles_grown c.loop-made.table new c.loop-made.walk.memo c.settle_node.ensures.grows.now i.memo);
      grows = grows_on c.args.table.now c.loop-made.table c.settle_node.new.table i.grows c.settle_node.ensures.grows;
    }

pub loop-made-init : goal.loop-made-init
loop-made-init c =
    let R : ℕ → Type 0 = StopsAll c.args.table.now c.args.walk.now.top in
    record {
      begun = (c.walk_law.ensures (length c.args.table.now.trees) c.args.walk.now.top).first c.args.walk.now c.requires.told c.requires.waiting refl c.requires.live;
      leads = subst (λ ws. All R (ws ++ c.args.walk.now.top ∷ [])) (sym c.requires.waiting) (All-cons R c.args.walk.now.top [] (λ e h. h) (All-nil R));
      memo = λ k v e. absurd (none-some v (sym (c.requires.told k) ∙ e));
      grows = grows_refl c.args.table.now;
    }

pub returns-in_err-finish-in-Made : goal.returns-in_err-finish-in-Made
returns-in_err-finish-in-Made c =
    record {
      gives = gives_stop _ _ _ _ c.from_residual-in_err-finish-in-Made.ensures.1 tt;
      grows = grows_on c.args.table.now c.loop-made.table c.settle_node.new.table c.loop-made.invariant.grows c.settle_node.ensures.grows;
    }

pub returns-then-not-branch : goal.returns-then-not-branch
returns-then-not-branch c =
    let i = c.loop-made.invariant in
    let walks = c.walk_law.ensures (length c.args.table.now.trees) c.args.walk.now.top in
    let R : ℕ → Type 0 = StopsAll c.args.table.now c.args.walk.now.top in
    let leads : R c.top.result = subst R (sym c.top.ensures) (all_last R c.loop-made.walk.waiting c.loop-made.walk.top i.leads) in
    let live : c.top.result < length c.args.table.now.trees = subst (λ k. k < length c.args.table.now.trees) (sym c.top.ensures) (walks.live c.loop-made.walk i.begun) in
    let last : c.loop-made.walk.waiting ≡ [] = c.in_ok-finish-in-Made.ensures.last c.if-not-branch.true in
    let made : IsTyped c.settle_node.new.table (settle (tree_in c.loop-made.table c.top.result)) c.in-Made.made = subst (IsStep c.loop-made.table c.memo.result.now c.top.result c.settle_node.new.table) c.in-Made.is c.in_ok-made.ensures.gives in
    record {
      gives = step_made c.args.table.now c.loop-made.table c.settle_node.new.table c.args.walk.now.top c.top.result i.grows.now leads live c.in-Made.made (c.top.ensures ∙ walks.last c.loop-made.walk i.begun last) made;
      grows = grows_on c.args.table.now c.loop-made.table c.settle_node.new.table c.loop-made.invariant.grows c.settle_node.ensures.grows;
    }

pub loop-made-smaller : goal.loop-made-smaller
loop-made-smaller c =
    let walks = c.walk_law.ensures (length c.args.table.now.trees) c.args.walk.now.top in
    let next : IsNext c.loop-made.table c.memo.result.now c.top.result c.in-Part.part = subst (IsStep _ _ _ _) c.in-Part.is c.in_ok-made.ensures.gives in
    (walks.part c.loop-made.walk c.begin.new.self c.in-Part.part c.loop-made.invariant.begun c.in_ok-begin-in-Part.ensures (omega (arith, next.older, c.top.ensures)) (ap (λ m. told m c.in-Part.part) (sym c.memo.ensures) ∙ next.untold)).less

pub returns-in_err-begin-in-Part : goal.returns-in_err-begin-in-Part
returns-in_err-begin-in-Part c =
    record {
      gives = gives_stop _ _ _ _ c.from_residual-in_err-begin-in-Part.ensures.1 tt;
      grows = grows_on c.args.table.now c.loop-made.table c.settle_node.new.table c.loop-made.invariant.grows c.settle_node.ensures.grows;
    }
