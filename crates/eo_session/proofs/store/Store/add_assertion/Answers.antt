use Rattle.eo_session.proofs.Holding.{whole_assertion, state_assertion}
use Rattle.eo_session.proofs.store.Store.add_assertion.Goals as goal

pub returns-clause-whole : goal.returns-clause-whole
returns-clause-whole c =
    whole_assertion c.args.self.now c.requires.whole c.laws.ensures.equals c.args.value c.requires.live c.add.new.self c.in_ok-add.ensures.added

pub returns-clause-updates : goal.returns-clause-updates
returns-clause-updates c =
    state_assertion c.args.self.now c.requires.whole c.laws.ensures.equals c.args.value c.requires.live c.add.new.self c.in_ok-add.ensures.added
