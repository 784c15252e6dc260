use Rattle.std.proofs.Common.{length, subst}
use Rattle.eo_stack.specs.Machine.{Again, evals}
use Rattle.eo_stack.specs.Reading.{begun, outcome_in, OutcomeBelow}
use Rattle.eo_stack.specs.Scopes.{entered}
use Rattle.eo_eval.proofs.machine.Machine.keep.Goals as goal

pub returns-in-Value-clause-remembers : goal.returns-in-Value-clause-remembers
returns-in-Value-clause-remembers c = λ S most h s k.
    let ts = c.args.table.now.trees in
    let e = c.args.self.now in
    c.remember.ensures.remembers S most h s
    (subst (OutcomeBelow (length ts)) c.in-Value.is k.value, subst (λ o. Again (evals S most (entered ts e.scope c.args.id)) (outcome_in ts o) c.args.deepest (begun ts e.calls.entries)) c.in-Value.is k.again)

pub returns-in-Stuck-clause-remembers : goal.returns-in-Stuck-clause-remembers
returns-in-Stuck-clause-remembers c = λ S most h s k.
    let ts = c.args.table.now.trees in
    let e = c.args.self.now in
    c.remember-in-Stuck.ensures.remembers S most h s
    (subst (λ o. Again (evals S most (entered ts e.scope c.args.id)) (outcome_in ts o) c.args.deepest (begun ts e.calls.entries)) c.in-Stuck.is k.again)
