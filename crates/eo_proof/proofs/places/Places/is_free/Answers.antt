use Rattle.std.proofs.Common.{◌≡◌, ◌∙◌, ℕ, Bool, true, false, List, Some, None, slice_get, refl, sym, ap, subst}
use Rattle.std.specs.Prelude.{not}
use Rattle.std.proofs.lemmas.Bool.{false≢true}
use Rattle.std.proofs.lemmas.Option.{none-some, same_Some, slice_get_past, slice_get-get_or}
use Rattle.eo_proof.proofs.places.Places.is_free.Goals as goal

not_true : (b : Bool) → not b ≡ true → b ≡ false
not_true false t = refl
not_true true t = absurd (false≢true t)

pub returns-in-None : goal.returns-in-None
returns-in-None c =
    let none : slice_get c.args.self.now.numbered.items c.args.number ≡ None =
    ap (λ (xs : List ℕ). slice_get xs c.args.number) (sym c.deref.ensures.value) ∙ slice_get_past c.deref.result.now c.args.number c.in-None.ensures.lookup.3 in
    ((λ t i name at stands same. none-some i (sym none ∙ at)), (λ free. refl))

pub returns-in-Some : goal.returns-in-Some
returns-in-Some c =
    let place = c.in-Some.place.now in
    let found = c.in-Some.ensures.lookup in
    let leads : slice_get c.args.self.now.numbered.items c.args.number ≡ Some place =
    ap (λ (xs : List ℕ). slice_get xs c.args.number) (sym c.deref.ensures.value) ∙ slice_get-get_or c.deref.result.now c.args.number place found.3.0 ∙ ap Some (sym found.1) in (
      (λ t i name at stands. c.ends_in.ensures.0 (not_true c.ends_in.result t) name (subst (λ p. slice_get c.args.names.now p ≡ Some name) (same_Some i place (sym at ∙ leads)) stands)),
      (λ free. ap not (c.ends_in.ensures.1 (λ name stands. free place name leads stands))),
    )
