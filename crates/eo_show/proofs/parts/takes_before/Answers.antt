use Rattle.std.proofs.Common.{ap, sym, ◌∙◌, arith}
use Rattle.eo_sig.specs.Reading.{signature, read_constant}
use Rattle.eo_sig.specs.Signature.{constant_for}
use Rattle.eo_show.specs.Forms.{name_of, is_this}
use Rattle.eo_show.proofs.Lookups.{name_given, none_before}
use Rattle.eo_show.proofs.parts.takes_before.Goals as goal

pub returns-then-constant-constants-clause-tells : goal.returns-then-constant-constants-clause-tells
returns-then-constant-constants-clause-tells c = λ ts.
    let S = signature ts c.args.sig.now in
    none_before S c.args.constant (name_of S c.args.constant) c.args.n (omega (arith, c.constants.ensures.value ts))

pub returns-in-Some-clause-tells : goal.returns-in-Some-clause-tells
returns-in-Some-clause-tells c = λ ts.
    let S = signature ts c.args.sig.now in
    ap (is_this S c.args.constant) (c.in-Some.ensures ts ∙ ap (λ w. constant_for S w c.args.n) (c.as_bytes.ensures ∙ sym (name_given S c.args.constant (read_constant ts c.constant.result.now) (c.constant.ensures.value ts))))

pub returns-in-None-clause-tells : goal.returns-in-None-clause-tells
returns-in-None-clause-tells c = λ ts.
    let S = signature ts c.args.sig.now in
    ap (is_this S c.args.constant) (c.in-None.ensures ts ∙ ap (λ w. constant_for S w c.args.n) (c.as_bytes.ensures ∙ sym (name_given S c.args.constant (read_constant ts c.constant.result.now) (c.constant.ensures.value ts))))
