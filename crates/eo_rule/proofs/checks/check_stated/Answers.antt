use Rattle.std.proofs.Common.{sym, ◌∙◌}
use Rattle.eo_rule.proofs.Steps.{stated-differs, stated-agrees}
use Rattle.eo_rule.proofs.checks.check_stated.Goals as goal

pub returns-then-not-is_stated : goal.returns-then-not-is_stated
returns-then-not-is_stated c = stated-differs _ _ (sym c.is_stated.ensures ∙ c.if-not-is_stated.true)

pub returns : goal.returns
returns c = record { live = c.requires.live; is = stated-agrees _ _ (sym c.is_stated.ensures ∙ c.if-not-is_stated.false) }
