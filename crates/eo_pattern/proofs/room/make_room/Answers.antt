use Rattle.std.proofs.Common.{◌≡◌, ◌+◌, ◌∙◌, [], ◌∷◌, ◌++◌, All, ℕ, length, take, sym, ap, subst, add-one}
use Rattle.std.proofs.Math.Seq.{take-suc}
use Rattle.std.proofs.lemmas.List.{take_all}
use Rattle.std.proofs.lemmas.List.Elements.{All-push, All-weaker}
use Rattle.eo_term.specs.Growth.{tree_in}
use Rattle.eo_pattern.specs.Slots.{Slots, HasRoom}
use Rattle.eo_pattern.proofs.room.make_room.Goals as goal

pub loop-pattern-preserved : goal.loop-pattern-preserved
loop-pattern-preserved c =
    let t = c.args.table.now in
    let v = c.loop-pattern.invariant in
    let ps = c.args.patterns.now in
    let i = c.loop-pattern.pattern-index in
    let P : Slots → ℕ → Type 0 = λ s p. HasRoom s (tree_in t p) in
    let new = c.reserve_for.new.self in
    let next : take (i + 1) ps ≡ take i ps ++ c.pattern-item.result ∷ [] = ap (λ n. take n ps) (add-one i) ∙ (take-suc ps i c.pattern-item.result c.loop-pattern-test.true ∙ ap (λ x. take i ps ++ x ∷ []) (sym c.pattern-item.is)) in
    record {
      room = subst (All (P new)) (sym next) (All-push (P new) (take i ps) c.pattern-item.result (All-weaker (P c.loop-pattern.subst) (P new) (λ p h. c.reserve_for.ensures.more (tree_in t p) h) (take i ps) v.room) c.in_ok-reserve_for.ensures.room);
      held = c.reserve_for.ensures.held t.trees ∙ v.held;
      below = c.reserve_for.ensures.below (length t.trees) v.below;
    }

pub returns-clause-room : goal.returns-clause-room
returns-clause-room c =
    let t = c.args.table.now in
    subst (All (λ p. HasRoom c.loop-pattern.subst (tree_in t p))) (take_all c.loop-pattern.pattern-index c.args.patterns.now c.loop-pattern-test.false) c.loop-pattern.invariant.room

pub returns-in_err-reserve_for-clause-held : goal.returns-in_err-reserve_for-clause-held
returns-in_err-reserve_for-clause-held c = c.reserve_for.ensures.held c.args.table.now.trees ∙ c.loop-pattern.invariant.held

pub returns-in_err-reserve_for-clause-below : goal.returns-in_err-reserve_for-clause-below
returns-in_err-reserve_for-clause-below c = c.reserve_for.ensures.below (length c.args.table.now.trees) c.loop-pattern.invariant.below
