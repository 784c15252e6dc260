use Rattle.std.proofs.Common.{◌≡◌, ℕ, ◌<◌, ◌++◌, ◌∷◌, [], All, length, Some, nat_eq, if◌then◌else◌, refl, sym, ap, ◌∙◌, subst, arith}
use Rattle.std.proofs.lemmas.List.Elements.{All-nil, All-cons, All-push}
use Rattle.std.proofs.lemmas.Option.{none-some}
use Rattle.std.proofs.lemmas.Result.{err_from_is_err_and}
use Rattle.eo_base.proofs.Elements.{all_first, all_last}
use Rattle.eo_term.specs.Memo.{told, TellsOnly}
use Rattle.eo_term.specs.Walk.{Begins, Finishes}
use Rattle.eo_pattern.specs.Slots.{held, IsPut}
use Rattle.eo_pattern.specs.Steps.{IsNext, IsStep}
use Rattle.eo_pattern.proofs.Steps.{Overtops, puts_grown, holds_grown, step_tall, step_part, step_made, step_kept}
use Rattle.eo_term.proofs.Growing.{grows_refl, grows_on}
use Rattle.eo_pattern.proofs.Making.{tall_exit}
use Rattle.eo_pattern.proofs.substitution.put_walk.Goals as goal

pub put_node-requires : goal.put_node-requires
put_node-requires c =
    let i = c.loop-made.invariant in
    let walks = c.walk_law.ensures (length c.args.table.now.trees) c.args.walk.now.top in
    let ts = c.loop-made.table.trees in
    record {
      live = omega (arith, walks.live c.loop-made.walk i.begun, c.top.ensures, i.grows.now.more_trees);
      below = (holds_grown c.args.subst.now c.args.table.now c.loop-made.table c.requires.below c.loop-made.invariant.grows.now).below;
      assigned = c.requires.assigned;
      memo = subst (TellsOnly (IsPut (held ts c.args.subst.now) ts)) (sym c.memo.ensures) c.loop-made.invariant.memo;
    }

pub returns-in_err-made-clause-tall : goal.returns-in_err-made-clause-tall
returns-in_err-made-clause-tall c =
    let e = err_from_is_err_and c.from_residual.result c.from_residual.ensures.1 in
    let i = c.loop-made.invariant in
    let walks = c.walk_law.ensures (length c.args.table.now.trees) c.args.walk.now.top in
    let R : ℕ → Type 0 = Overtops (held c.args.table.now.trees c.args.subst.now) c.args.table.now.trees c.args.walk.now.top in
    let leads = subst R (sym c.top.ensures) (all_last R c.loop-made.walk.waiting c.loop-made.walk.top i.leads) in
    let live : c.top.result < length c.args.table.now.trees = subst (λ k. k < length c.args.table.now.trees) (sym c.top.ensures) (walks.live c.loop-made.walk i.begun) in
    rw (e.1, e.2) (λ h. step_tall c.args.subst.now c.args.table.now c.loop-made.table c.loop-made.table c.args.walk.now.top c.top.result c.requires.below i.grows.now leads live (c.in_err-made.ensures.tall h))

pub returns-then-not-branch-clause-made : goal.returns-then-not-branch-clause-made
returns-then-not-branch-clause-made c =
    let i = c.loop-made.invariant in
    let walks = c.walk_law.ensures (length c.args.table.now.trees) c.args.walk.now.top in
    let R : ℕ → Type 0 = Overtops (held c.args.table.now.trees c.args.subst.now) c.args.table.now.trees c.args.walk.now.top in
    let leads = subst R (sym c.top.ensures) (all_last R c.loop-made.walk.waiting c.loop-made.walk.top i.leads) in
    let live : c.top.result < length c.args.table.now.trees = subst (λ k. k < length c.args.table.now.trees) (sym c.top.ensures) (walks.live c.loop-made.walk i.begun) in
    let last : c.loop-made.walk.waiting ≡ [] = c.in_ok-finish-in-Made.ensures.last c.if-not-branch.true in
    let made = subst (IsStep _ _ _ _ _) c.in-Made.is c.in_ok-made.ensures.step in
    step_made c.args.subst.now c.args.table.now c.loop-made.table c.put_node.new.table c.args.walk.now.top c.top.result c.requires.below i.grows.now leads live c.in-Made.made (c.top.ensures ∙ walks.last c.loop-made.walk i.begun last) made

pub loop-made-smaller-else-not-branch : goal.loop-made-smaller-else-not-branch
loop-made-smaller-else-not-branch c =
    let next : Finishes c.loop-made.walk c.in-Made.made c.finish.new.self = c.in_ok-finish-in-Made.ensures.next c.if-not-branch.false in
    ((c.walk_law.ensures (length c.args.table.now.trees) c.args.walk.now.top).rest c.loop-made.walk c.finish.new.self c.in-Made.made c.loop-made.invariant.begun next).less

pub loop-made-preserved-else-not-branch : goal.loop-made-preserved-else-not-branch
loop-made-preserved-else-not-branch c =
    let i = c.loop-made.invariant in
    let walks = c.walk_law.ensures (length c.args.table.now.trees) c.args.walk.now.top in
    let R : ℕ → Type 0 = Overtops (held c.args.table.now.trees c.args.subst.now) c.args.table.now.trees c.args.walk.now.top in
    let leads = subst R (sym c.top.ensures) (all_last R c.loop-made.walk.waiting c.loop-made.walk.top i.leads) in
    let live : c.top.result < length c.args.table.now.trees = subst (λ k. k < length c.args.table.now.trees) (sym c.top.ensures) (walks.live c.loop-made.walk i.begun) in
    let next : Finishes c.loop-made.walk c.in-Made.made c.finish.new.self = c.in_ok-finish-in-Made.ensures.next c.if-not-branch.false in
    let made = subst (IsStep _ _ _ _ _) c.in-Made.is c.in_ok-made.ensures.step in
    let now = c.finish.new.self.memo in
    let before = c.loop-made.walk.memo in
    let kept = subst (λ (k : ℕ). (j : ℕ) → told now j ≡ (if nat_eq k j then Some c.in-Made.made else told before j)) (sym c.top.ensures) next.memo in
    record {
      begun = (walks.rest c.loop-made.walk c.finish.new.self c.in-Made.made i.begun next).goes;
      leads = subst (All R) next.waiting (all_first R c.loop-made.walk.waiting (c.loop-made.walk.top ∷ []) i.leads);
      memo = step_kept c.args.subst.now c.args.table.now c.loop-made.table c.put_node.new.table c.args.walk.now.top c.top.result c.requires.below i.grows.now leads live c.in-Made.made before now c.put_node.ensures.grows.now kept i.memo made;
      grows = grows_on c.args.table.now c.loop-made.table c.put_node.new.table i.grows c.put_node.ensures.grows;
    }

pub loop-made-preserved : goal.loop-made-preserved
loop-made-preserved c =
    let i = c.loop-made.invariant in
    let walks = c.walk_law.ensures (length c.args.table.now.trees) c.args.walk.now.top in
    let R : ℕ → Type 0 = Overtops (held c.args.table.now.trees c.args.subst.now) c.args.table.now.trees c.args.walk.now.top in
    let leads = subst R (sym c.top.ensures) (all_last R c.loop-made.walk.waiting c.loop-made.walk.top i.leads) in
    let live : c.top.result < length c.args.table.now.trees = subst (λ k. k < length c.args.table.now.trees) (sym c.top.ensures) (walks.live c.loop-made.walk i.begun) in
    let begins : Begins c.loop-made.walk c.in-Part.part c.begin.new.self = c.in_ok-begin-in-Part.ensures in
    let next : IsNext (held c.loop-made.table.trees c.args.subst.now) c.loop-made.table.trees c.memo.result.now c.top.result c.in-Part.part = subst (IsStep _ _ _ _ _) c.in-Part.is c.in_ok-made.ensures.step in
    let new = c.put_node.new.table in
    let below = (holds_grown c.args.subst.now c.args.table.now c.loop-made.table c.requires.below i.grows.now).below in
    record {
      begun = (walks.part c.loop-made.walk c.begin.new.self c.in-Part.part i.begun begins (omega (arith, next.older, c.top.ensures)) (ap (λ m. told m c.in-Part.part) (sym c.memo.ensures) ∙ next.untold)).goes;
      leads = subst (All R) (λ k. sym begins.waiting k ++ sym begins.top k ∷ [])
          (All-push R (c.loop-made.walk.waiting ++ c.loop-made.walk.top ∷ []) c.in-Part.part i.leads (step_part c.args.subst.now c.args.table.now c.loop-made.table new c.args.walk.now.top c.top.result c.requires.below i.grows.now leads live c.memo.result.now c.in-Part.part next));
      memo = subst (TellsOnly (IsPut (held new.trees c.args.subst.now) new.trees)) (sym begins.memo) (puts_grown c.args.subst.now c.loop-made.table new c.loop-made.walk.memo below c.put_node.ensures.grows.now i.memo);
      grows = grows_on c.args.table.now c.loop-made.table c.put_node.new.table i.grows c.put_node.ensures.grows;
    }

pub loop-made-init : goal.loop-made-init
loop-made-init c =
    let R : ℕ → Type 0 = Overtops (held c.args.table.now.trees c.args.subst.now) c.args.table.now.trees c.args.walk.now.top in
    record {
      begun = (c.walk_law.ensures (length c.args.table.now.trees) c.args.walk.now.top).first c.args.walk.now c.requires.told c.requires.waiting refl c.requires.live;
      leads = subst (λ ws. All R (ws ++ c.args.walk.now.top ∷ [])) (sym c.requires.waiting) (All-cons R c.args.walk.now.top [] (λ h. h) (All-nil R));
      memo = λ k v e. absurd (none-some v (sym (c.requires.told k) ∙ e));
      grows = grows_refl c.args.table.now;
    }

pub returns-in_err-made-clause-grows : goal.returns-in_err-made-clause-grows
returns-in_err-made-clause-grows c = grows_on c.args.table.now c.loop-made.table c.put_node.new.table c.loop-made.invariant.grows c.put_node.ensures.grows

pub returns-in_err-finish-in-Made-clause-tall : goal.returns-in_err-finish-in-Made-clause-tall
returns-in_err-finish-in-Made-clause-tall c = tall_exit _ _ _ _ c.from_residual-in_err-finish-in-Made.ensures.1 refl (λ h. absurd h)

pub returns-in_err-finish-in-Made-clause-grows : goal.returns-in_err-finish-in-Made-clause-grows
returns-in_err-finish-in-Made-clause-grows c = grows_on c.args.table.now c.loop-made.table c.put_node.new.table c.loop-made.invariant.grows c.put_node.ensures.grows

pub returns-then-not-branch-clause-grows : goal.returns-then-not-branch-clause-grows
returns-then-not-branch-clause-grows c = grows_on c.args.table.now c.loop-made.table c.put_node.new.table c.loop-made.invariant.grows c.put_node.ensures.grows

pub loop-made-smaller : goal.loop-made-smaller
loop-made-smaller c =
    let walks = c.walk_law.ensures (length c.args.table.now.trees) c.args.walk.now.top in
    let next : IsNext (held c.loop-made.table.trees c.args.subst.now) c.loop-made.table.trees c.memo.result.now c.top.result c.in-Part.part = subst (IsStep _ _ _ _ _) c.in-Part.is c.in_ok-made.ensures.step in
    (walks.part c.loop-made.walk c.begin.new.self c.in-Part.part c.loop-made.invariant.begun c.in_ok-begin-in-Part.ensures (omega (arith, next.older, c.top.ensures)) (ap (λ m. told m c.in-Part.part) (sym c.memo.ensures) ∙ next.untold)).less

pub returns-in_err-begin-in-Part-clause-tall : goal.returns-in_err-begin-in-Part-clause-tall
returns-in_err-begin-in-Part-clause-tall c = tall_exit _ _ _ _ c.from_residual-in_err-begin-in-Part.ensures.1 refl (λ h. absurd h)

pub returns-in_err-begin-in-Part-clause-grows : goal.returns-in_err-begin-in-Part-clause-grows
returns-in_err-begin-in-Part-clause-grows c = grows_on c.args.table.now c.loop-made.table c.put_node.new.table c.loop-made.invariant.grows c.put_node.ensures.grows
