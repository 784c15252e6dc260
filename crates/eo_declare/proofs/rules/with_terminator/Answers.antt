use Rattle.std.proofs.Common.{sym, ◌∙◌}
use Rattle.eo_base.specs.declared.FaultName.TheVariants.{BadPattern}
use Rattle.eo_declare.proofs.CheckedLemmas.{require-yes, require-no}
use Rattle.eo_declare.proofs.rules.with_terminator.Goals as goal

pub returns-then-not-has_terminator : goal.returns-then-not-has_terminator
returns-then-not-has_terminator c = λ ts. require-no _ BadPattern _ (sym (c.has_terminator.ensures ts) ∙ c.if-not-has_terminator.true)

pub returns : goal.returns
returns c = λ ts. record { live = tt; is = require-yes _ BadPattern _ (sym (c.has_terminator.ensures ts) ∙ c.if-not-has_terminator.false) }
