use Rattle.eo_stated.proofs.HeldGrown.{keeps_grown}
use Rattle.eo_stated.proofs.checker.Checker.has_type_bool.Goals as goal

pub returns-in-Ok-Some-clause-keeps : goal.returns-in-Ok-Some-clause-keeps
returns-in-Ok-Some-clause-keeps c =
    let e = c.type_of-found.ensures.extends in
    keeps_grown c.args.self.now c.requires.held c.type_of-found.new.table e.grows.table e.grows.stays c.type_of-found.new.self e.fits.fit.types c.laws.ensures

pub returns-in-Ok-None-clause-keeps : goal.returns-in-Ok-None-clause-keeps
returns-in-Ok-None-clause-keeps c =
    let e = c.type_of-found.ensures.extends in
    keeps_grown c.args.self.now c.requires.held c.type_of-found.new.table e.grows.table e.grows.stays c.type_of-found.new.self e.fits.fit.types c.laws.ensures
