use Rattle.std.proofs.Common.{◌≡◌, ◌≤◌, ◌+◌, ℕ, All, subst, arith}
use Rattle.std.proofs.lemmas.List.Elements.{All-weaker}
use Rattle.std.proofs.lemmas.Bool.Decides.{nat_tests}
use Rattle.eo_term.specs.Tree.{height}
use Rattle.eo_term.specs.Growth.{tree_in}
use Rattle.eo_pattern.specs.Slots.{held}
use Rattle.eo_pattern.specs.Steps.{put_in}
use Rattle.eo_stack.specs.Scopes.{IsValueSlot, IsLightSlot}
use Rattle.eo_stack.proofs.Lights.{lights_low, light_value, not_tall}
use Rattle.eo_stack.proofs.bodies.fits_unsubstituted.Goals as goal

pub returns-clause-low : goal.returns-clause-low
returns-clause-low c = λ fits.
    let t = c.args.table.now in
    let σ = held t.trees c.args.subst.now in
    let h = c.in-Some.tallest in
    let all = subst (All (IsLightSlot t.trees h)) c.slots.ensures c.in-Some.ensures.all in
    let low : height (put_in t c.args.subst.now c.args.body) + 1 ≤ height (tree_in t c.args.body) + h =
    c.putting_law.ensures.height σ h c.in-Some.ensures.some (lights_low t.trees h c.args.subst.now.values all) (tree_in t c.args.body) in
    not_tall (put_in t c.args.subst.now c.args.body) (small (height (put_in t c.args.subst.now c.args.body)) (height (tree_in t c.args.body)) h c.height.result low c.height.ensures.height (grind (arith, nat_tests, fits)))
  where
    small : (a b h r : ℕ) → a + 1 ≤ b + h → r ≡ b → r + h ≤ 1_000_001 → a ≤ 1_000_000
    small a b h r low same fits = omega (arith, low, same, fits)

pub returns-clause-values : goal.returns-clause-values
returns-clause-values c = λ fits.
    let ts = c.args.table.now.trees in
    let h = c.in-Some.tallest in
    All-weaker (IsLightSlot ts h) (IsValueSlot ts) (light_value ts h) c.args.subst.now.values (subst (All (IsLightSlot ts h)) c.slots.ensures c.in-Some.ensures.all)
