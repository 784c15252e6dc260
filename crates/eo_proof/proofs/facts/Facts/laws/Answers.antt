use Rattle.std.proofs.Common.{subst}
use Rattle.eo_proof.specs.Kept.{IsKept}
use Rattle.eo_proof.proofs.facts.Facts.laws.Goals as goal

pub returns-clause-begun : goal.returns-clause-begun
returns-clause-begun c = (subst (λ k. IsKept k c.self.inside.refutation) c.self.view_is c.self.invariant).begun
