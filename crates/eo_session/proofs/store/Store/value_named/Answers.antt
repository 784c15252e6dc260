use Rattle.eo_term.specs.Growth.{tree_in}
use Rattle.eo_session.specs.Store.{state_of}
use Rattle.eo_session.proofs.Sessions.{gives-same}
use Rattle.eo_session.proofs.NamedValues.{named-none, named-is}
use Rattle.eo_session.proofs.store.Store.value_named.Goals as goal

pub returns-in-Some-clause-gives : goal.returns-in-Some-clause-gives
returns-in-Some-clause-gives c =
    let h = c.args.self.now in
    gives-same c.evaluate.new.self c.evaluate.result _ _ (named-is (state_of h) c.args.name.now (tree_in h.table c.in-Some.id) c.in-Some.ensures.tree) c.evaluate.ensures.gives

pub returns-in-None-clause-gives : goal.returns-in-None-clause-gives
returns-in-None-clause-gives c = (named-none (state_of c.args.self.now) c.args.name.now c.in-None.ensures.tree, λ q. absurd cc)
