-- What has a type at the end had one before.
use Rattle.std.specs.Prelude.{◌≡◌, Bool, true, false, refl}
use Rattle.std.proofs.Common.{ap}
use Rattle.eo_base.proofs.Tests.{clash}
use Rattle.eo_term.specs.Tree.{Tree}
use Rattle.eo_type.specs.Types.{TypeOutcome, Typed, Untyped, TypeRange, TypeTall, on_typed, typed_if}

abbrev pub is_typed : {A : Type 0} → TypeOutcome A → Bool
is_typed (Typed t) = true
is_typed Untyped = false
is_typed TypeRange = false
is_typed TypeTall = false

pub typed_or : {A : Type 0} → TypeOutcome A → A → A
typed_or (Typed t) d = t
typed_or Untyped d = d
typed_or TypeRange d = d
typed_or TypeTall d = d

pub typed_inj : {A : Type 0} {a b : A} → Typed a ≡ Typed b → a ≡ b
unfolding typed_or
typed_inj {A} {a} {b} e = ap (λ (o : TypeOutcome A). typed_or o a) e

-- a type at the end had a type before
pub typed_before : {A B : Type 0} (o : TypeOutcome A) (go : A → TypeOutcome B) (b : B) → on_typed o go ≡ Typed b → (a : A) × (o ≡ Typed a) × (go a ≡ Typed b)
typed_before (Typed a) go b e = (a, refl, e)
typed_before Untyped go b e = clash (ap is_typed e)
typed_before TypeRange go b e = clash (ap is_typed e)
typed_before TypeTall go b e = clash (ap is_typed e)

pub typed_if_gives : (c : Bool) (t u : Tree) → typed_if c t ≡ Typed u → (c ≡ true) × (t ≡ u)
typed_if_gives true t u e = (refl, typed_inj e)
typed_if_gives false t u e = clash (ap is_typed e)
