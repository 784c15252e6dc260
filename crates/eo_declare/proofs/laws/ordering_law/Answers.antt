use Rattle.eo_declare.proofs.BoundUses.{declared_rule_ordered, defined_fits}
use Rattle.eo_declare.proofs.laws.ordering_law.Goals as goal

pub returns-clause-rules : goal.returns-clause-rules
returns-clause-rules c = λ context s r fits e. declared_rule_ordered context fits s r e

pub returns-clause-macros : goal.returns-clause-macros
returns-clause-macros c = λ context name params body m fits e. defined_fits context fits name params body m e
