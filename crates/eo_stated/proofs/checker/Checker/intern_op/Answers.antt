use Rattle.eo_stated.proofs.HeldGrown.{keeps_table}
use Rattle.eo_stated.proofs.checker.Checker.intern_op.Goals as goal

pub returns-clause-keeps : goal.returns-clause-keeps
returns-clause-keeps c =
    keeps_table c.args.self.now c.requires.held c.intern_op.new.self c.intern_op.ensures.grows
    (c.growth_law.ensures.stays c.args.self.now.signature c.args.self.now.table c.intern_op.new.self c.requires.held.signature c.intern_op.ensures.grows.now)
