use Rattle.eo_session.proofs.Holding.{keeps_types}
use Rattle.eo_session.proofs.store.Store.show_note.Goals as goal

pub returns-clause-keeps : goal.returns-clause-keeps
returns-clause-keeps g c =
    let told = c.accepted-shown.ensures in
    keeps_types c.args.self.now c.requires.whole c.accepted-shown.new.table told.grows.stays told.grows.table c.accepted-shown.new.types told.fits.fit.types c.laws.ensures
