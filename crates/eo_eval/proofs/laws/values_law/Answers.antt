use Rattle.eo_eval.proofs.Values.{eval_value, eval0_fit}
use Rattle.eo_eval.proofs.laws.values_law.Goals as goal

pub returns-clause-whole : goal.returns-clause-whole
returns-clause-whole c = λ S t v usable e. (eval0_fit S usable.terminators t v e).0

pub returns-clause-part : goal.returns-clause-part
returns-clause-part c = λ S most left t v b d usable e. (eval_value S usable.terminators most left t b v d e).0
