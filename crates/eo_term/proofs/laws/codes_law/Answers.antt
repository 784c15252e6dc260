use Rattle.eo_term.proofs.Exact.{code_exact, code_same}
use Rattle.eo_term.proofs.laws.codes_law.Goals as goal

pub returns : goal.returns
returns c = λ a b. (code_exact a b, code_same a b)
