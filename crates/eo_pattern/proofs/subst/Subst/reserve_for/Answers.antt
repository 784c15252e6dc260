use Rattle.std.proofs.Common.{◌≡◌, sym, subst}
use Rattle.eo_pattern.specs.Slots.{Slots, held, AreBelow}
use Rattle.eo_pattern.proofs.subst.Subst.reserve_for.Goals as goal

pub returns-in_err-reserve-2-clause-held : goal.returns-in_err-reserve-2-clause-held
returns-in_err-reserve-2-clause-held c = λ ts. subst (λ (s : Slots). held ts s ≡ held ts c.args.self.now) (sym c.self.view_is) (c.reserve.ensures.held ts)

pub returns-in_err-reserve-2-clause-below : goal.returns-in_err-reserve-2-clause-below
returns-in_err-reserve-2-clause-below c = λ n b. subst (AreBelow n) (sym c.self.view_is) (c.reserve.ensures.below n b)

pub returns-in_ok-reserve-2-clause-held : goal.returns-in_ok-reserve-2-clause-held
returns-in_ok-reserve-2-clause-held c = λ ts. subst (λ (s : Slots). held ts s ≡ held ts c.args.self.now) (sym c.self.view_is) (c.reserve.ensures.held ts)

pub returns-in_ok-reserve-2-clause-below : goal.returns-in_ok-reserve-2-clause-below
returns-in_ok-reserve-2-clause-below c = λ n b. subst (AreBelow n) (sym c.self.view_is) (c.reserve.ensures.below n b)
