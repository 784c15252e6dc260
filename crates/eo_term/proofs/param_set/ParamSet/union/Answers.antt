use Rattle.std.proofs.Common.{ℕ, ◌||◌, ap₂, ◌∙◌}
use Rattle.std.proofs.lemmas.Nat.{or_lt}
use Rattle.eo_term.specs.ParamSet.{has}
use Rattle.eo_term.proofs.ParamSets.{has_union}
use Rattle.eo_term.proofs.param_set.ParamSet.union.Goals as goal

pub returns : goal.returns
returns c = λ i. has_union c.self.inside.bits c.other.inside.bits i ∙ ap₂ (λ (a b : ℕ). has a i || has b i) c.self.view_is c.other.view_is

pub invariant_of-result : goal.invariant_of-result
invariant_of-result c = or_lt 64 c.self.inside.bits c.other.inside.bits c.self.invariant c.other.invariant
