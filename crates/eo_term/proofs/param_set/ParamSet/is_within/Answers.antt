use Rattle.std.proofs.Common.{ℕ, sym, ap, ◌∙◌}
use Rattle.eo_term.specs.ParamSet.{has}
use Rattle.eo_term.proofs.ParamSets.{within_has, has_within}
use Rattle.eo_term.proofs.param_set.ParamSet.is_within.Goals as goal

pub returns : goal.returns
returns c = (
  λ e i h. ap (λ (s : ℕ). has s i) (sym c.other.view_is) ∙ within_has c.self.inside.bits c.other.inside.bits e i (ap (λ (s : ℕ). has s i) c.self.view_is ∙ h),
  λ f. has_within c.self.inside.bits c.other.inside.bits (λ i h. ap (λ (s : ℕ). has s i) c.other.view_is ∙ f i (ap (λ (s : ℕ). has s i) (sym c.self.view_is) ∙ h)),
)
