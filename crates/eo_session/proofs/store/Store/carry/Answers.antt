use Rattle.std.proofs.Common.{rules}
use Rattle.eo_session.proofs.Alive.{kept_mark}
use Rattle.eo_session.proofs.Reclaiming.{carries}
use Rattle.eo_session.proofs.store.Store.carry.Goals as goal

pub carry_all-requires-clause-mark : goal.carry_all-requires-clause-mark
carry_all-requires-clause-mark c = kept_mark c.args.self.now c.requires.whole.live

pub returns : goal.returns
returns c =
    carries c.args.self.now c.requires.whole c.growth_law.ensures.stays c.carry_all.new.self c.forget.new.self c.args.ids.now c.carry_all.new.ids c.in_ok-carry_all.ensures.ok c.forget.ensures.fits c.laws.ensures (search rules)
