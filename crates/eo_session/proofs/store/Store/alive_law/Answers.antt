use Rattle.std.proofs.Common.{◌∙◌}
use Rattle.eo_session.proofs.Alive.{count_alive}
use Rattle.eo_session.proofs.store.Store.alive_law.Goals as goal

pub returns : goal.returns
returns c = c.requires.settled ∙ count_alive c.args.self.now c.requires.whole.live c.growth_law.ensures.stays c.laws.ensures c.equality_law.ensures.trees
