use Rattle.std.proofs.Common.{◌≡◌, MatchOption, refl, sym, subst}
use Rattle.eo_ops.specs.declared.Lit.TheVariants.{Num}
use Rattle.eo_ops.specs.declared.OpResult.TheVariants.{Value, NumberRange}
use Rattle.eo_ops.proofs.answers.number.Goals as goal

pub returns-in-None : goal.returns-in-None
returns-in-None c = subst (λ v. MatchOption v (NumberRange ≡ NumberRange) (λ z. NumberRange ≡ Value (Num z))) (sym c.in-None.is) refl
