use Rattle.eo_session.proofs.store.Store.refutes.Goals as goal

pub returns : goal.returns
returns c = c.has_false.ensures c.args.self.now.table c.laws.ensures c.requires.store.facts
