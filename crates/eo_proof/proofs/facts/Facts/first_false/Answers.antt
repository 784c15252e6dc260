use Rattle.std.proofs.Common.{◌∙◌, subst}
use Rattle.eo_proof.specs.Kept.{IsKept}
use Rattle.eo_proof.proofs.Reading.{refutation_is}
use Rattle.eo_proof.proofs.facts.Facts.first_false.Goals as goal

pub returns : goal.returns
returns c =
    let is : IsKept c.args.self.now c.self.inside.refutation = subst (λ k. IsKept k c.self.inside.refutation) c.self.view_is c.self.invariant in
    (λ t table below. is.refutation ∙ refutation_is t c.args.self.now table below)
