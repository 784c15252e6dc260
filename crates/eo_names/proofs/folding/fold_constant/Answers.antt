use Rattle.eo_names.specs.Folding.{folded}
use Rattle.eo_names.proofs.folding.fold_constant.Goals as goal

pub returns-then-args-eq2-clause-gives : goal.returns-then-args-eq2-clause-gives
unfolding folded
returns-then-args-eq2-clause-gives c = c.fold_two.ensures.gives c.args.k
