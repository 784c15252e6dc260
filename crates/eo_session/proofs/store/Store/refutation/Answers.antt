use Rattle.eo_session.proofs.store.Store.refutation.Goals as goal

pub returns : goal.returns
returns c = c.first_false.ensures c.args.self.now.table c.laws.ensures c.requires.store.facts
