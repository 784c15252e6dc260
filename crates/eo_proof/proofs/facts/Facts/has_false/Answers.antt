use Rattle.std.proofs.Common.{◌∙◌, ap, subst, is_some}
use Rattle.eo_proof.specs.Kept.{IsKept, scopes}
use Rattle.eo_proof.proofs.Reading.{refutation_is, some_false}
use Rattle.eo_proof.proofs.facts.Facts.has_false.Goals as goal

pub returns : goal.returns
returns c =
    let is : IsKept c.args.self.now c.self.inside.refutation = subst (λ k. IsKept k c.self.inside.refutation) c.self.view_is c.self.invariant in
    (λ t table below. c.is_some.ensures ∙ ap is_some (is.refutation ∙ refutation_is t c.args.self.now table below) ∙ some_false (scopes t.trees c.args.self.now))
