use Rattle.std.proofs.Common.{ap, sym, ◌∙◌, arith}
use Rattle.eo_sig.specs.Reading.{signature, read_constant}
use Rattle.eo_sig.specs.Signature.{constant_named}
use Rattle.eo_show.specs.Forms.{name_of, is_this}
use Rattle.eo_show.proofs.Lookups.{name_given, none_past}
use Rattle.eo_show.proofs.parts.takes.Goals as goal

pub returns-then-constant-constants-clause-tells : goal.returns-then-constant-constants-clause-tells
returns-then-constant-constants-clause-tells c = λ ts.
    let S = signature ts c.args.sig.now in
    none_past S c.args.constant (name_of S c.args.constant) (omega (arith, c.constants.ensures.value ts))

pub returns-in-Some-clause-tells : goal.returns-in-Some-clause-tells
returns-in-Some-clause-tells c = λ ts.
    let S = signature ts c.args.sig.now in
    ap (is_this S c.args.constant) (c.in-Some.ensures ts ∙ ap (constant_named S) (c.as_bytes.ensures ∙ sym (name_given S c.args.constant (read_constant ts c.constant.result.now) (c.constant.ensures.value ts))))

pub returns-in-None-clause-tells : goal.returns-in-None-clause-tells
returns-in-None-clause-tells c = λ ts.
    let S = signature ts c.args.sig.now in
    ap (is_this S c.args.constant) (c.in-None.ensures ts ∙ ap (constant_named S) (c.as_bytes.ensures ∙ sym (name_given S c.args.constant (read_constant ts c.constant.result.now) (c.constant.ensures.value ts))))
