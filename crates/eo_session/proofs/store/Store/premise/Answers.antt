use Rattle.std.proofs.Common.{length}
use Rattle.eo_proof.specs.Scopes.{fact_named}
use Rattle.eo_session.specs.Store.{state_of}
use Rattle.eo_session.proofs.Concluding.{premise-some, premise-none}
use Rattle.eo_session.proofs.Used.{fact_value}
use Rattle.eo_session.proofs.store.Store.premise.Goals as goal

pub returns-in-Ok-clause-gives : goal.returns-in-Ok-clause-gives
returns-in-Ok-clause-gives c =
    let h = c.args.self.now in
    record {
      live = c.in-Ok.ensures.below (length h.table.trees) c.requires.store.facts;
      is = premise-some (fact_named (state_of h).scopes c.args.name.now) _ (c.in-Ok.ensures.finds h.table.trees);
    }

pub returns-in-Ok-clause-value : goal.returns-in-Ok-clause-value
returns-in-Ok-clause-value c =
    let h = c.args.self.now in
    fact_value (state_of h).scopes c.args.name.now _ c.requires.store.values (c.in-Ok.ensures.finds h.table.trees)

pub returns-in-Err-clause-gives : goal.returns-in-Err-clause-gives
returns-in-Err-clause-gives c =
    let h = c.args.self.now in
    (premise-none (fact_named (state_of h).scopes c.args.name.now) (c.in-Err.ensures.finds h.table.trees), λ q. absurd cc)
