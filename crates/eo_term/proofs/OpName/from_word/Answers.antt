use Rattle.std.proofs.Common.{sym, ◌∙◌}
use Rattle.eo_term.proofs.OperatorNames.{none_named}
use Rattle.eo_term.proofs.OpName.from_word.Goals as goal

pub returns-then-not-starts_with : goal.returns-then-not-starts_with
returns-then-not-starts_with c = sym (none_named c.args.word.now (sym c.starts_with.ensures.value ∙ c.if-not-starts_with.true))
