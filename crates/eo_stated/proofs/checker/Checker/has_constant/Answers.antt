use Rattle.std.proofs.Common.{nat_lt, sym, ap, ◌∙◌, is_some}
use Rattle.eo_sig.specs.Signature.{constants, constant_at}
use Rattle.eo_sig.specs.Reading.{signature}
use Rattle.eo_stated.proofs.Within.{is_some_at}
use Rattle.eo_stated.proofs.checker.Checker.has_constant.Goals as goal

pub returns : goal.returns
returns c =
    let ts = c.args.self.now.table.trees in
    ap (nat_lt c.args.number) (c.constants.ensures.value ts)
    ∙ (sym (is_some_at (constants (signature ts c.args.self.now.signature)) c.args.number) ∙ ap (λ S. is_some (constant_at S c.args.number)) c.requires.declared)
