use Rattle.std.proofs.Common.{ℕ, ap, ◌∙◌}
use Rattle.eo_term.specs.ParamSet.{has}
use Rattle.eo_term.proofs.ParamSets.{has_below}
use Rattle.eo_term.proofs.param_set.ParamSet.upper_bound.Goals as goal

pub returns : goal.returns
returns c = λ i e. has_below c.self.inside.bits i c.self.invariant (ap (λ (s : ℕ). has s i) c.self.view_is ∙ e)
