use Rattle.eo_run.proofs.Closed.{closed_keeps_rules}
use Rattle.eo_run.proofs.Soundness.{correct_refutes}
use Rattle.eo_run.proofs.laws.soundness_law.Goals as goal

pub returns-clause-correct : goal.returns-clause-correct
returns-clause-correct c =
    correct_refutes c.commands_law.ensures.first c.commands_law.ensures.begin c.commands_law.ensures.command c.commands_law.ensures.end

pub returns-clause-closed : goal.returns-clause-closed
returns-clause-closed c = closed_keeps_rules c.commands_law.ensures.closed c.commands_law.ensures.quiet
