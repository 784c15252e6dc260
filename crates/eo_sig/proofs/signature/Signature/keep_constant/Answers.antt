use Rattle.std.proofs.Common.{◌≡◌, [], sym, ap, ◌∙◌}
use Rattle.eo_sig.specs.Signature as sig
use Rattle.eo_sig.specs.Reading.{signature}
use Rattle.eo_sig.proofs.signature.Signature.keep_constant.Goals as goal

pub keep_other-requires-clause-named : goal.keep_other-requires-clause-named
keep_other-requires-clause-named c =
    ap (sig.constant_named (signature [] c.args.self.now)) (sym c.as_bytes.ensures) ∙ sym (c.first_named.ensures.named []) ∙ c.in-Some.is

pub keep_new-requires : goal.keep_new-requires
keep_new-requires c =
    ap (sig.constant_named (signature [] c.args.self.now)) (sym c.as_bytes.ensures) ∙ sym (c.first_named.ensures.named []) ∙ c.in-None.is
