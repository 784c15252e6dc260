use Rattle.std.proofs.Common.{◌∙◌, ap, sym, subst, List, ℕ, ◌∷◌, ◌++◌, [], reverse}
use Rattle.std.proofs.lemmas.List.{reverse-append}
use Rattle.eo_proof.specs.declared.facts.Begun.{Begun}
use Rattle.eo_proof.specs.Kept.{NamedId, IsKept, kept_of, scopes, with_begun}
use Rattle.eo_proof.proofs.Reading.{kept_begun, begun_in}
use Rattle.eo_proof.proofs.facts.Facts.begin.Goals as goal

pub returns-clause-added : goal.returns-clause-added
returns-clause-added c =
    let name = c.args.name.now in
    let es = c.self.inside.formulas in
    let scope : Begun = record { first = c.len-first.result; hypothesis = c.args.id } in
    let facts_is = c.in_ok-push.ensures.new in
    let items_is = c.in_ok-push-2.ensures.items ∙ ap (λ (xs : List Begun). xs ++ scope ∷ []) c.in_ok-reserve.ensures.items in
    (λ i. kept_of (facts_is i) (items_is i))
    ∙ ap (λ (bs : List Begun). record { facts = es ++ (name, (c.args.id, c.args.command)) ∷ []; begun = bs }) (reverse-append c.self.inside.begun.items (scope ∷ []))
    ∙ ap (λ (n : ℕ). record { facts = es ++ (name, (c.args.id, c.args.command)) ∷ []; begun = record { first = n; hypothesis = c.args.id } ∷ reverse c.self.inside.begun.items }) c.len-first.ensures
    ∙ ap (λ k. with_begun k (name, (c.args.id, c.args.command))) c.self.view_is

pub returns-clause-begins : goal.returns-clause-begins
returns-clause-begins c =
    let f : NamedId = (c.args.name.now, (c.args.id, c.args.command)) in
    (λ ts. ap (scopes ts) (returns-clause-added c) ∙ begun_in ts c.args.self.now f)

pub invariant_of-self-2 : goal.invariant_of-self-2
invariant_of-self-2 c =
    let f : NamedId = (c.args.name.now, (c.args.id, c.args.command)) in
    subst (λ k. IsKept k c.self.inside.refutation) (sym (returns-clause-added c))
    (kept_begun c.args.self.now c.self.inside.refutation f (subst (λ k. IsKept k c.self.inside.refutation) c.self.view_is c.self.invariant))
