use Rattle.eo_session.proofs.Holding.{keeps_types}
use Rattle.eo_session.proofs.store.Store.type_of.Goals as goal

pub returns-clause-keeps : goal.returns-clause-keeps
returns-clause-keeps c =
    let made = c.value_type-ty.ensures.extends in
    keeps_types c.args.self.now c.requires.whole c.value_type-ty.new.table made.grows.stays made.grows.table c.value_type-ty.new.types made.fits.fit.types c.laws.ensures
