-- Values of parameters, none of them taller than a number.
use Rattle.std.specs.Prelude.{◌≡◌, ℕ, zero, suc, ◌≤◌, All, false, List, [], ◌∷◌, Option, Some, None, option_map, slice_get}
use Rattle.std.specs.Option.{option_flatten}
use Rattle.std.proofs.Common.{subst, arith}
use Rattle.std.proofs.lemmas.List.Elements.{All-head, All-tail}
use Rattle.std.proofs.lemmas.Option.{none-some, same_Some}
use Rattle.std.proofs.lemmas.Bool.Decides.{nat_tests}
use Rattle.eo_term.specs.Tree.{Tree, height, is_tall}
use Rattle.eo_term.specs.Terms.{tree_at}
use Rattle.eo_stack.specs.Scopes.{IsValueSlot, IsLightSlot}

pub lights_low : (ts : List Tree) (h : ℕ) (vs : List (Option ℕ)) → All (IsLightSlot ts h) vs → (i : ℕ) (u : Tree) → option_map (tree_at ts) (option_flatten (slice_get vs i)) ≡ Some u → height u ≤ h
lights_low ts h [] l i u e = absurd (none-some u e)
lights_low ts h (None ∷ vs) l zero u e = absurd (none-some u e)
lights_low ts h (Some k ∷ vs) l zero u e = subst (λ (t : Tree). height t ≤ h) (same_Some (tree_at ts k) u e) (All-head (IsLightSlot ts h) (Some k) vs l).1
lights_low ts h (o ∷ vs) l (suc i) u e = lights_low ts h vs (All-tail (IsLightSlot ts h) o vs l) i u e

pub light_value : (ts : List Tree) (h : ℕ) (o : Option ℕ) → IsLightSlot ts h o → IsValueSlot ts o
light_value ts h None l = tt
light_value ts h (Some i) l = l.0

pub light_more : (ts : List Tree) (g h : ℕ) (o : Option ℕ) → g ≤ h → IsLightSlot ts g o → IsLightSlot ts h o
light_more ts g h None m l = tt
light_more ts g h (Some i) m l = (l.0, omega (arith, m, l.1))

pub not_tall : (t : Tree) → height t ≤ 1_000_000 → is_tall t ≡ false
not_tall t h = grind (arith, nat_tests)
