use Rattle.std.proofs.Common.{ap, sym, ◌∙◌}
use Rattle.eo_sig.specs.Signature as sig
use Rattle.eo_sig.specs.Reading.{signature, read_premises}
use Rattle.eo_sig.proofs.signature.Signature.can_join.Goals as goal

pub returns-in-Joined : goal.returns-in-Joined
returns-in-Joined c = λ ts. c.has_terminator.ensures ts ∙ ap (λ p. sig.can_join (signature ts c.args.self.now) (read_premises ts p)) (sym c.in-Joined.is)
