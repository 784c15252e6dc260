use Rattle.eo_base.proofs.FaultsApart.{own_numbers, own_texts}
use Rattle.eo_base.proofs.faults_law.Goals as goal

pub returns-clause-numbers : goal.returns-clause-numbers
returns-clause-numbers c = own_numbers

pub returns-clause-texts : goal.returns-clause-texts
returns-clause-texts c = own_texts
