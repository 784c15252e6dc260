use Rattle.std.proofs.Common.{sym, ap, ◌∙◌}
use Rattle.std.specs.Option.{option_or, option_map}
use Rattle.eo_sig.specs.Signature as sig
use Rattle.eo_sig.specs.Reading.{signature, macros}
use Rattle.eo_sig.proofs.signature.Signature.lookup.Goals as goal

pub returns-in-Some-clause-named : goal.returns-in-Some-clause-named
returns-in-Some-clause-named c = λ ts.
    ap (λ o. option_or (option_map sig.NamesConstant o) (sig.other_named (signature ts c.args.self.now) (macros ts c.args.self.now) c.args.name.now)) (sym c.in-Some.is ∙ c.first_named.ensures.named ts)

pub returns-in-None-clause-named : goal.returns-in-None-clause-named
returns-in-None-clause-named c = λ ts.
    c.other_named.ensures.named ts
    ∙ ap (λ o. option_or (option_map sig.NamesConstant o) (sig.other_named (signature ts c.args.self.now) (macros ts c.args.self.now) c.args.name.now)) (sym c.in-None.is ∙ c.first_named.ensures.named ts)
