use Rattle.eo_session.proofs.Alive.{kept_mark}
use Rattle.eo_session.proofs.Reclaiming.{released, released_state}
use Rattle.eo_session.proofs.store.Store.release.Goals as goal

pub release-requires : goal.release-requires
release-requires c = kept_mark c.args.self.now c.requires.live

pub returns-clause-settled : goal.returns-clause-settled
returns-clause-settled c =
    released c.args.self.now c.requires c.growth_law.ensures.stays c.release.new.self c.forget.new.self c.release.ensures.trees c.release.ensures.texts c.release.ensures.marks c.forget.ensures.fits c.laws.ensures

pub returns-clause-same : goal.returns-clause-same
returns-clause-same c =
    released_state c.args.self.now c.requires c.growth_law.ensures.stays c.release.new.self c.forget.new.self c.release.ensures.trees c.release.ensures.texts c.release.ensures.marks
