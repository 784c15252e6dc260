use Rattle.std.proofs.Common.{◌≡◌, ◌∙◌, ◌<◌, ap, sym, subst, List, [], ◌∷◌, reverse}
use Rattle.std.proofs.lemmas.List.{reverse-append}
use Rattle.std.proofs.lemmas.List.Elements.{All-take, All-head, All-tail}
use Rattle.eo_proof.specs.declared.facts.Begun.{Begun}
use Rattle.eo_proof.specs.Kept.{NamedId, kept_of, scopes, without_begun, AreBelow}
use Rattle.eo_proof.specs.Scopes.{innermost_hypothesis, outside}
use Rattle.eo_proof.proofs.Reading.{without_none, popped_is, hypothesis_is, no_hypothesis}
use Rattle.eo_proof.proofs.facts.Facts.pop.Goals as goal
use Rattle.eo_proof.proofs.facts.Facts.pop.Goals.{After-truncate}

pub returns-in_default-clause-pops : goal.returns-in_default-clause-pops
returns-in_default-clause-pops c =
    let es = c.self.inside.formulas in
    let old_is : c.args.self.now ≡ record { facts = es; begun = [] } = sym c.self.view_is ∙ ap (kept_of es) c.in_default.ensures.none in
    let new_is = ap (kept_of es) c.in_default.ensures.same in
    (λ ts. (ap (λ k. innermost_hypothesis (scopes ts k)) old_is ∙ no_hypothesis ts es, ap (scopes ts) (new_is ∙ sym old_is)))

pub returns-in_default-clause-kept : goal.returns-in_default-clause-kept
returns-in_default-clause-kept c =
    let es = c.self.inside.formulas in
    let old_is : c.args.self.now ≡ record { facts = es; begun = [] } = sym c.self.view_is ∙ ap (kept_of es) c.in_default.ensures.none in
    ap (kept_of es) c.in_default.ensures.same ∙ without_none es ∙ ap without_begun (sym old_is)

old_is : (c : After-truncate) → c.args.self.now ≡ record { facts = c.self.inside.formulas; begun = c.in-Some.scope ∷ reverse c.take_last.new.begun.items }
old_is c =
    let es = c.self.inside.formulas in
    sym c.self.view_is ∙ ap (kept_of es) c.in-Some.ensures.some
    ∙ ap (λ (bs : List Begun). record { facts = es; begun = bs }) (reverse-append c.take_last.new.begun.items (c.in-Some.scope ∷ []))

pub returns-clause-pops : goal.returns-clause-pops
returns-clause-pops c =
    let es = c.self.inside.formulas in
    let scope = c.in-Some.scope in
    let bs = reverse c.take_last.new.begun.items in
    let new_is = ap (λ (xs : List NamedId). kept_of xs c.take_last.new.begun.items) c.truncate.ensures in
    (λ ts. (
      ap (λ k. innermost_hypothesis (scopes ts k)) (old_is c) ∙ hypothesis_is ts es scope bs,
      ap (scopes ts) new_is ∙ popped_is ts es scope bs ∙ ap (λ k. outside (scopes ts k)) (sym (old_is c)),
    ))

pub returns-clause-kept : goal.returns-clause-kept
returns-clause-kept c =
    ap (λ (xs : List NamedId). kept_of xs c.take_last.new.begun.items) c.truncate.ensures ∙ ap without_begun (sym (old_is c))

pub returns-clause-below : goal.returns-clause-below
returns-clause-below c =
    let es = c.self.inside.formulas in
    let scope = c.in-Some.scope in
    let bs = reverse c.take_last.new.begun.items in
    let new_is = ap (λ (xs : List NamedId). kept_of xs c.take_last.new.begun.items) c.truncate.ensures in
    (λ m h. let g : AreBelow m (record { facts = es; begun = scope ∷ bs }) = subst (AreBelow m) (old_is c) h in
    subst (AreBelow m) (sym new_is) (record {
      facts = All-take (λ (f : NamedId). f.1.0 < m) scope.first es g.facts;
      hypotheses = All-tail (λ (b : Begun). b.hypothesis < m) scope bs g.hypotheses;
    }))

pub returns-clause-live : goal.returns-clause-live
returns-clause-live c =
    let es = c.self.inside.formulas in
    let scope = c.in-Some.scope in
    let bs = reverse c.take_last.new.begun.items in
    (λ m h. let g : AreBelow m (record { facts = es; begun = scope ∷ bs }) = subst (AreBelow m) (old_is c) h in
    All-head (λ (b : Begun). b.hypothesis < m) scope bs g.hypotheses)
