use Rattle.eo_session.proofs.Holding.{keeps_types}
use Rattle.eo_session.proofs.store.Store.value_of.Goals as goal

pub returns-clause-keeps : goal.returns-clause-keeps
returns-clause-keeps c =
    let made = c.value_of-value.ensures.extends in
    keeps_types c.args.self.now c.requires.whole c.value_of-value.new.table made.grows.stays made.grows.table c.value_of-value.new.types made.fits.fit.types c.laws.ensures
