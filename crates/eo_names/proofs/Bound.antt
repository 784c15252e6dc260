-- What a `let` or a binder binds, as the table of names holds it.
use Rattle.std.proofs.Common.{◌≡◌, ℕ, Bool, true, false, cond, ◌||◌, List, [], ◌∷◌, map, Option, Some, None, is_some, refl, sym, ap, ◌∙◌, true≢false}
use Rattle.std.specs.Str.{bytes_eq}
use Rattle.std.specs.Map.{lookup, values_of}
use Rattle.eo_base.proofs.Tests.{bytes_eq-flip}
use Rattle.eo_names.specs.Names.{Binding, names_in}

pub values_bound : (es : List Binding) → values_of es ≡ map (λ (b : Binding). b.1) es
values_bound [] = refl
values_bound (e ∷ es) = ap (λ is. e.1 ∷ is) (values_bound es)

module _ (name : List ℕ) where
  pub lookup_names : (es : List Binding) → is_some (lookup (bytes_eq name) es) ≡ names_in es name
  lookup_names [] = refl
  lookup_names (e ∷ es) = by (bytes_eq name e.0) (bytes_eq e.0 name) (bytes_eq-flip name e.0) (lookup_names es)
    where
      by : (a b : Bool) → a ≡ b → is_some (lookup (bytes_eq name) es) ≡ names_in es name → is_some (cond a (Some e.1) (lookup (bytes_eq name) es)) ≡ (b || names_in es name)
      by true true h rest = refl
      by false false h rest = rest
      by true false h rest = absurd (true≢false h)
      by false true h rest = absurd (true≢false (sym h))

  none_found : (o : Option ℕ) → is_some o ≡ false → o ≡ None
  none_found None h = refl
  none_found (Some i) h = absurd (true≢false h)

  pub lookup_absent : (es : List Binding) → names_in es name ≡ false → lookup (bytes_eq name) es ≡ None
  lookup_absent es h = none_found (lookup (bytes_eq name) es) (lookup_names es ∙ h)
