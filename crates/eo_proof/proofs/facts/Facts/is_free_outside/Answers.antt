use Rattle.std.proofs.Common.{◌≡◌, ◌∙◌, ap, sym, subst, Some, None, position}
use Rattle.std.specs.Prelude.{nat_le}
use Rattle.std.specs.Map.{keys_of}
use Rattle.std.specs.Str.{bytes_eq}
use Rattle.eo_proof.specs.Kept.{Kept, IsKept}
use Rattle.eo_proof.proofs.Reading.{outside_some, outside_none}
use Rattle.eo_proof.proofs.facts.Facts.is_free_outside.Goals as goal

pub returns-in-Some : goal.returns-in-Some
returns-in-Some c =
    let k = c.args.self.now in
    let name = c.args.name.now in
    let is : IsKept k c.self.inside.refutation = subst (λ k. IsKept k c.self.inside.refutation) c.self.view_is c.self.invariant in
    let at : position (bytes_eq name) (keys_of k.facts) ≡ Some c.in-Some.place = ap (λ (k : Kept). position (bytes_eq name) (keys_of k.facts)) (sym c.self.view_is) ∙ sym c.place.ensures ∙ c.in-Some.is in
    (λ ts. ap (λ n. nat_le n c.in-Some.place) c.outer_count-outer.ensures ∙ outside_some ts k name c.in-Some.place is.begun at)

pub returns-in-None : goal.returns-in-None
returns-in-None c =
    let k = c.args.self.now in
    let name = c.args.name.now in
    let is : IsKept k c.self.inside.refutation = subst (λ k. IsKept k c.self.inside.refutation) c.self.view_is c.self.invariant in
    let at : position (bytes_eq name) (keys_of k.facts) ≡ None = ap (λ (k : Kept). position (bytes_eq name) (keys_of k.facts)) (sym c.self.view_is) ∙ sym c.place.ensures ∙ c.in-None.is in
    (λ ts. outside_none ts k name is.begun at)
