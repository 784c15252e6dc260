use Rattle.std.proofs.Common.{◌∙◌}
use Rattle.eo_session.proofs.Alive.{count_alive}
use Rattle.eo_session.proofs.store.Store.live.Goals as goal

pub returns : goal.returns
returns c = c.terms.ensures ∙ count_alive c.args.self.now c.requires.live c.growth_law.ensures.stays c.laws.ensures c.equality_law.ensures.trees
