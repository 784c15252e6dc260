use Rattle.std.proofs.Common.{◌≡◌, length, sym, ap, ◌∙◌, arith}
use Rattle.std.specs.Prelude.{nat_le}
use Rattle.eo_stated.proofs.Nested.{contexts_some}
use Rattle.eo_stated.proofs.Within.{at_most}
use Rattle.eo_stated.proofs.checker.Checker.has_context.Goals as goal

pub returns-clause-there : goal.returns-clause-there
returns-clause-there c =
    let old = c.args.self.now in
    let e : c.len.result ≡ length old.contexts.items = omega arith in
    ap (nat_le c.args.number) e ∙ (at_most c.args.number (length old.contexts.items) ∙ sym (contexts_some old.table.trees old.contexts.items c.args.number))
