use Rattle.eo_run.proofs.SingleNames.{keeps_verdict, keeps_load}
use Rattle.eo_run.proofs.laws.single_names_law.Goals as goal

pub returns-clause-check : goal.returns-clause-check
returns-clause-check c = keeps_verdict

pub returns-clause-load : goal.returns-clause-load
returns-clause-load c = keeps_load
