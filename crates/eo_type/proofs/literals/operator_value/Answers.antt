use Rattle.eo_type.proofs.Walk.{answers_err}
use Rattle.eo_type.proofs.literals.operator_value.Goals as goal

pub release-requires : goal.release-requires
release-requires c = c.value_of.ensures.grows.now.marks c.mark-mark.result c.mark-mark.ensures.holds

pub returns-in-Err-clause-answers : goal.returns-in-Err-clause-answers
returns-in-Err-clause-answers c = answers_err c.value_of.new.table c.release.new.self _ _ (c.in-Err.ensures.answers c.value_of.new.table _ c.value_of.ensures.gives)

pub returns-in-Err-clause-refused : goal.returns-in-Err-clause-refused
returns-in-Err-clause-refused c = (c.release.ensures.back c.args.table.now c.value_of.ensures.grows c.mark-mark.ensures.mark).same

pub returns-in-Err-clause-grows : goal.returns-in-Err-clause-grows
returns-in-Err-clause-grows c = (c.release.ensures.back c.args.table.now c.value_of.ensures.grows c.mark-mark.ensures.mark).grows
