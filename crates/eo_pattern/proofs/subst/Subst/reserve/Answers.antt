use Rattle.std.proofs.Common.{◌≡◌, sym, subst}
use Rattle.eo_pattern.specs.Slots.{Slots, held, AreBelow}
use Rattle.eo_pattern.proofs.subst.Subst.reserve.Goals as goal

pub returns-clause-held : goal.returns-clause-held
returns-clause-held c = λ ts. subst (λ (s : Slots). held ts c.reserve-2.new.self ≡ held ts s) c.self.view_is (c.reserve-2.ensures.held ts)

pub returns-clause-below : goal.returns-clause-below
returns-clause-below c = λ n b. c.reserve-2.ensures.below n (subst (AreBelow n) (sym c.self.view_is) b)
