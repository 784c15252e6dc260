use Rattle.std.proofs.Common.{◌≡◌, ◌+◌, ◌≤◌, ◌∙◌, [], ◌∷◌, ◌++◌, All, take, sym, ap, subst, add-one, rules}
use Rattle.std.proofs.Math.Seq.{take-suc}
use Rattle.std.proofs.lemmas.List.{take_all}
use Rattle.std.proofs.lemmas.List.Elements.{All-push, All-weaker}
use Rattle.eo_stack.specs.Scopes.{IsLightSlot}
use Rattle.eo_stack.proofs.Lights.{light_more}
use Rattle.eo_stack.proofs.bodies.tallest_value.Goals as goal

pub loop-slot-preserved : goal.loop-slot-preserved
loop-slot-preserved c =
    let ts = c.args.table.now.trees in
    let v = c.loop-slot.invariant in
    let os = c.args.slots.now in
    let i = c.loop-slot.slot-index in
    let m = c.max-tallest.result in
    let next : take (i + 1) os ≡ take i os ++ c.slot-item.result ∷ [] = ap (λ n. take n os) (add-one i) ∙ (take-suc os i c.slot-item.result c.loop-slot-test.true ∙ ap (λ x. take i os ++ x ∷ []) (sym c.slot-item.is)) in
    let one : 1 ≤ m = search rules in
    let low : m ≤ 1_000_000 = search rules in
    let was : c.loop-slot.tallest ≤ m = search rules in
    let is : c.in-Some.height ≤ m = search rules in
    record {
      one = one;
      low = low;
      all = subst (All (IsLightSlot ts m)) (sym next) (All-push (IsLightSlot ts m) (take i os) c.slot-item.result
          (All-weaker (IsLightSlot ts c.loop-slot.tallest) (IsLightSlot ts m) (λ o l. light_more ts c.loop-slot.tallest m o was l) (take i os) v.all)
          (light_more ts c.in-Some.height m c.slot-item.result is c.in-Some.ensures.light));
    }

pub returns-clause-all : goal.returns-clause-all
returns-clause-all c = subst (All (IsLightSlot c.args.table.now.trees c.loop-slot.tallest)) (take_all c.loop-slot.slot-index c.args.slots.now c.loop-slot-test.false) c.loop-slot.invariant.all
