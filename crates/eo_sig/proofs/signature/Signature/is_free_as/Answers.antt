use Rattle.std.proofs.Common.{◌&&◌, sym, ap, ◌∙◌}
use Rattle.eo_sig.specs.Reading.{signature, read_counts}
use Rattle.eo_sig.specs.Signature as sig
use Rattle.eo_sig.proofs.signature.Signature.is_free_as.Goals as goal

pub returns-then-may_name_constant : goal.returns-then-may_name_constant
returns-then-may_name_constant c = λ ts.
    c.is_apart.ensures ts
    ∙ sym (ap (λ b. b && sig.is_apart (signature ts c.args.self.now) c.args.name.now (read_counts c.args.counts)) (sym (c.may_name_constant.ensures ts) ∙ c.if-may_name_constant.true))
