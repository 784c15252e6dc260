use Rattle.std.proofs.Common.{ℕ, sym, ap, ◌∙◌, le-ltb}
use Rattle.eo_term.specs.ParamSet.{has}
use Rattle.eo_term.proofs.ParamSets.{has_bit, has_above}
use Rattle.eo_term.proofs.param_set.ParamSet.has.Goals as goal

pub returns-then-par-lt64 : goal.returns-then-par-lt64
returns-then-par-lt64 c = has_bit c.self.inside.bits c.args.par ∙ ap (λ (s : ℕ). has s c.args.par) c.self.view_is

pub returns-else-par-lt64 : goal.returns-else-par-lt64
returns-else-par-lt64 c =
    let high = has_above c.self.inside.bits c.args.par c.self.invariant c.if-par-lt64.false in
    le-ltb c.args.par 64 c.if-par-lt64.false ∙ sym (ap (λ (s : ℕ). has s c.args.par) (sym c.self.view_is) ∙ high)
