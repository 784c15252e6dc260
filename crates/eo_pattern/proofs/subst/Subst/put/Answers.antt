use Rattle.std.proofs.Common.{◌≡◌, sym, subst}
use Rattle.eo_term.specs.Terms.{tree_at}
use Rattle.eo_pattern.specs.Matching.{assign}
use Rattle.eo_pattern.specs.Slots.{Slots, held, AreBelow}
use Rattle.eo_pattern.proofs.subst.Subst.put.Goals as goal

pub returns-clause-held : goal.returns-clause-held
returns-clause-held c = λ ts. subst (λ (s : Slots). held ts c.put.new.self ≡ assign (held ts s) c.args.i (tree_at ts c.args.id)) c.self.view_is (c.put.ensures.held ts)

pub returns-clause-below : goal.returns-clause-below
returns-clause-below c = λ n b l. c.put.ensures.below n (subst (AreBelow n) (sym c.self.view_is) b) l
