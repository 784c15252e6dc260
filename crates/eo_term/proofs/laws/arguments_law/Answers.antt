use Rattle.eo_term.proofs.Arguments.{next, past}
use Rattle.eo_term.proofs.Sound.{length-trees_at}
use Rattle.eo_term.proofs.laws.arguments_law.Goals as goal

pub returns-clause-next : goal.returns-clause-next
returns-clause-next c = next

pub returns-clause-past : goal.returns-clause-past
returns-clause-past c = past

pub returns-clause-count : goal.returns-clause-count
returns-clause-count c = length-trees_at
