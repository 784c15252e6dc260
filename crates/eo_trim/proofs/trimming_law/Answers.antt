use Rattle.eo_trim.proofs.Law.{keeps_needed, trim_stays_correct}
use Rattle.eo_trim.proofs.trimming_law.Goals as goal

pub returns-clause-needed : goal.returns-clause-needed
returns-clause-needed c = keeps_needed

pub returns-clause-stays : goal.returns-clause-stays
returns-clause-stays c = trim_stays_correct
