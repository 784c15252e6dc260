use Rattle.std.proofs.Common.{◌≡◌, [], sym, ◌∙◌, subst}
use Rattle.eo_sig.specs.Signature as sig
use Rattle.eo_sig.specs.Reading.{signature}
use Rattle.eo_sig.proofs.Readings.{named_anywhere}
use Rattle.eo_sig.proofs.Looking.{named_within}
use Rattle.eo_sig.proofs.signature.Signature.first_named.Goals as goal

pub returns-clause-named : goal.returns-clause-named
returns-clause-named c = λ ts. subst (λ k. c.copied.result ≡ sig.constant_named (signature ts k) c.args.name.now) c.self.view_is
    (c.copied.ensures ∙ c.get.ensures.value ∙ c.self.invariant.indexed.first c.args.name.now ∙ sym (named_anywhere ts c.self.inside.entries.items c.args.name.now))

pub returns-clause-within : goal.returns-clause-within
returns-clause-within c = named_within c.args.self.now c.args.name.now c.copied.result (returns-clause-named c [])
