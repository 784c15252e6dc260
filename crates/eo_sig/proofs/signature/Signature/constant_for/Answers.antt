use Rattle.std.proofs.Common.{◌≡◌, ℕ, [], Some, None, Option, refl, sym, ap, ◌∙◌}
use Rattle.std.specs.Prelude.{unwrap_or}
use Rattle.std.specs.Option.{option_or}
use Rattle.eo_sig.specs.Signature as sig
use Rattle.eo_sig.specs.Reading.{signature}
use Rattle.eo_sig.proofs.Looking.{for_within, unnamed_none}
use Rattle.eo_sig.proofs.Readings.{named_anywhere, taking_anywhere}
use Rattle.eo_sig.proofs.signature.Signature.constant_for.Goals as goal

or_first : (t : Option ℕ) (f : ℕ) → Some (unwrap_or t f) ≡ option_or t (Some f)
or_first None f = refl
or_first (Some k) f = refl

pub returns-in-Some-clause-named : goal.returns-in-Some-clause-named
returns-in-Some-clause-named c = λ ts.
    let k = c.args.self.now in
    let w = c.args.name.now in
    let named = sym (c.first_named.ensures.named []) ∙ c.in-Some.is in
    ap Some c.unwrap_or.ensures ∙ or_first c.taking.result c.in-Some.first
    ∙ (λ i. option_or ((c.taking.ensures w named ∙ sym (taking_anywhere ts k.entries w c.args.n)) i) ((sym named ∙ sym (named_anywhere ts k.entries w)) i))

pub returns-in-None-clause-named : goal.returns-in-None-clause-named
returns-in-None-clause-named c = λ ts.
    let S = signature ts c.args.self.now in
    let none = sym (c.first_named.ensures.named ts) ∙ c.in-None.is in
    sym ((λ i. option_or (unnamed_none S c.args.name.now c.args.n none i) (none i)))

pub returns-in-Some-clause-within : goal.returns-in-Some-clause-within
returns-in-Some-clause-within c = for_within c.args.self.now c.args.name.now c.args.n (Some c.unwrap_or.result) (returns-in-Some-clause-named c [])
