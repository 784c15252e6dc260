use Rattle.eo_declare.proofs.BoundUses.{defined_fun_fits, defined_sort_fits}
use Rattle.eo_declare.proofs.laws.reference_law.Goals as goal

pub returns-clause-functions : goal.returns-clause-functions
returns-clause-functions c = λ context name params output body m fits e. defined_fun_fits context fits name params output body m e

pub returns-clause-sorts : goal.returns-clause-sorts
returns-clause-sorts c = λ context name params type m fits e. defined_sort_fits context fits name params type m e
