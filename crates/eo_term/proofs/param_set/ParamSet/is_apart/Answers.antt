use Rattle.std.proofs.Common.{ℕ, sym, ap, ◌∙◌, arith}
use Rattle.eo_term.specs.ParamSet.{has}
use Rattle.eo_term.proofs.ParamSets.{has_below, apart_has, has_apart}
use Rattle.eo_term.proofs.param_set.ParamSet.is_apart.Goals as goal

pub returns-clause-apart : goal.returns-clause-apart
returns-clause-apart c = (
  λ e i h. ap (λ (s : ℕ). has s i) (sym c.other.view_is) ∙ apart_has c.self.inside.bits c.other.inside.bits e i (ap (λ (s : ℕ). has s i) c.self.view_is ∙ h),
  λ f. has_apart c.self.inside.bits c.other.inside.bits (λ i h. ap (λ (s : ℕ). has s i) c.other.view_is ∙ f i (ap (λ (s : ℕ). has s i) (sym c.self.view_is) ∙ h)),
)

pub returns-clause-small : goal.returns-clause-small
returns-clause-small c = λ i h. omega (arith, has_below c.self.inside.bits i c.self.invariant (ap (λ (s : ℕ). has s i) c.self.view_is ∙ h))
