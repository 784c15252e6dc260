use Rattle.std.proofs.Common.{[], sym, ◌∙◌}
use Rattle.eo_sig.specs.Reading.{signature}
use Rattle.eo_sig.proofs.Looking.{taking_within, unnamed_none}
use Rattle.eo_sig.proofs.Readings.{taking_anywhere}
use Rattle.eo_sig.proofs.signature.Signature.constant_taking.Goals as goal

pub returns-in-Some-clause-named : goal.returns-in-Some-clause-named
returns-in-Some-clause-named c = λ ts.
    let k = c.args.self.now in
    c.taking.ensures c.args.name.now (sym (c.first_named.ensures.named []) ∙ c.in-Some.is) ∙ sym (taking_anywhere ts k.entries c.args.name.now c.args.n)

pub returns-in-None-clause-named : goal.returns-in-None-clause-named
returns-in-None-clause-named c = λ ts. sym (unnamed_none (signature ts c.args.self.now) c.args.name.now c.args.n (sym (c.first_named.ensures.named ts) ∙ c.in-None.is))

pub returns-in-Some-clause-within : goal.returns-in-Some-clause-within
returns-in-Some-clause-within c = taking_within c.args.self.now c.args.name.now c.args.n c.taking.result (returns-in-Some-clause-named c [])
