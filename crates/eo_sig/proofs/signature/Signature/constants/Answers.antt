use Rattle.std.proofs.Common.{◌≡◌, [], length, sym, ◌∙◌, subst, arith}
use Rattle.eo_sig.specs.Signature as sig
use Rattle.eo_sig.specs.Reading.{Kept, constants_of}
use Rattle.eo_sig.proofs.Readings.{places_count, bare_count}
use Rattle.eo_sig.proofs.signature.Signature.constants.Goals as goal

pub returns-clause-count : goal.returns-clause-count
returns-clause-count c =
    subst (λ (k : Kept). c.len.result ≡ length (constants_of k)) c.self.view_is (omega (arith, c.len.ensures, c.self.inside.constants.ok, places_count c.self.inside.entries.items c.self.inside.constants.items c.self.invariant.constants))

pub returns-clause-value : goal.returns-clause-value
returns-clause-value c = λ ts. returns-clause-count c ∙ sym (bare_count ts c.args.self.now)
