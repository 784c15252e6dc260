use Rattle.std.proofs.Common.{◌≡◌, ◌∙◌, ap, sym, subst}
use Rattle.eo_proof.specs.Kept.{NamedId, Kept, IsKept, kept_of, scopes, with_named}
use Rattle.eo_proof.proofs.Reading.{kept_named, added_to}
use Rattle.eo_proof.proofs.facts.Facts.put_free.Goals as goal

pub invariant_of-self-2 : goal.invariant_of-self-2
invariant_of-self-2 c =
    let f : NamedId = (c.args.name.now, (c.args.id, c.args.command)) in
    let k = c.args.self.now in
    let added : kept_of c.push.new.self c.self.inside.begun.items ≡ with_named k f =
    ap (λ xs. kept_of xs c.self.inside.begun.items) c.in_ok-push.ensures.new ∙ ap (λ (k : Kept). with_named k f) c.self.view_is in
    subst (λ (k : Kept). IsKept k c.refutation_with-refutation.result) (sym added)
    (kept_named k c.self.inside.refutation c.refutation_with-refutation.result f (subst (λ (k : Kept). IsKept k c.self.inside.refutation) c.self.view_is c.self.invariant) (c.refutation_with-refutation.ensures c.args.name.now))

pub returns-clause-adds : goal.returns-clause-adds
returns-clause-adds c =
    let f : NamedId = (c.args.name.now, (c.args.id, c.args.command)) in
    let k = c.args.self.now in
    let added : kept_of c.push.new.self c.self.inside.begun.items ≡ with_named k f =
    ap (λ xs. kept_of xs c.self.inside.begun.items) c.in_ok-push.ensures.new ∙ ap (λ (k : Kept). with_named k f) c.self.view_is in
    let is : IsKept k c.self.inside.refutation = subst (λ (k : Kept). IsKept k c.self.inside.refutation) c.self.view_is c.self.invariant in
    (λ ts. ap (scopes ts) added ∙ added_to ts k c.self.inside.refutation f is)
