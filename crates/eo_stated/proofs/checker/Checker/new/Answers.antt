use Rattle.std.proofs.Common.{sym, subst}
use Rattle.eo_session.specs.Beginning.{IsFirstSignature}
use Rattle.eo_stated.specs.declared.beginning.Parts.{Parts}
use Rattle.eo_stated.proofs.checker.Checker.new.Goals as goal

pub first-requires-clause-signature : goal.first-requires-clause-signature
first-requires-clause-signature c =
    subst (λ (p : Parts). IsFirstSignature p.signature) (sym c.in_ok-session.ensures.other) c.in_ok-parts.ensures.signature
