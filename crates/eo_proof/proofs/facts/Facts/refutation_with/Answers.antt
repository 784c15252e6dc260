use Rattle.std.proofs.Common.{◌≡◌, ◌∙◌, ap, ◌<◌, subst, Bool, ◌∷◌, [], length, reverse, arith}
use Rattle.std.specs.Bool.{then_some}
use Rattle.std.specs.Option.{option_or}
use Rattle.std.proofs.lemmas.List.{length-reverse}
use Rattle.std.proofs.lemmas.Bool.Decides.{nat_tests}
use Rattle.eo_proof.specs.Kept.{Kept, IsKept}
use Rattle.eo_proof.proofs.Reading.{told_begun, told_outside}
use Rattle.eo_proof.proofs.facts.Facts.refutation_with.Goals as goal

pub returns-then-not-is_empty : goal.returns-then-not-is_empty
returns-then-not-is_empty c =
    let is : IsKept c.args.self.now c.self.inside.refutation = subst (λ k. IsKept k c.self.inside.refutation) c.self.view_is c.self.invariant in
    let some : 0 < length (reverse c.self.inside.begun.items) = grind (arith, nat_tests, length-reverse c.self.inside.begun.items, c.if-not-is_empty.ensures) in
    (λ name. told_begun c.args.self.now.facts ((name, (c.args.id, c.args.command)) ∷ []) c.args.self.now.begun c.self.inside.refutation is.begun is.refutation (subst (λ (k : Kept). 0 < length k.begun) c.self.view_is some))

pub returns : goal.returns
returns c =
    let is : IsKept c.args.self.now c.self.inside.refutation = subst (λ k. IsKept k c.self.inside.refutation) c.self.view_is c.self.invariant in
    let none : length (reverse c.self.inside.begun.items) ≡ 0 = grind (arith, nat_tests, length-reverse c.self.inside.begun.items, c.if-not-is_empty.ensures) in
    let here = c.or.ensures ∙ ap (option_or c.self.inside.refutation) (c.then_some-here.ensures ∙ ap (λ (b : Bool). then_some b c.args.command) c.eq.ensures) in
    (λ name. told_outside c.args.self.now.facts (name, (c.args.id, c.args.command)) c.args.self.now.begun c.self.inside.refutation c.or.result
    (subst (λ (k : Kept). length k.begun ≡ 0) c.self.view_is none) is.refutation here)
