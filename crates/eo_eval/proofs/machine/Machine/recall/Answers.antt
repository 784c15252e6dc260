use Rattle.eo_stack.specs.Machine.{evals}
use Rattle.eo_stack.specs.Reading.{begun}
use Rattle.eo_stack.specs.Scopes.{entered}
use Rattle.eo_eval.proofs.machine.Machine.recall.Goals as goal

pub returns-in-Some : goal.returns-in-Some
returns-in-Some c = λ S most h s.
    let ts = c.args.table.now.trees in
    let e = c.args.self.now in
    c.use_memo.ensures ts (begun ts e.calls.entries) (evals S most (entered ts e.scope c.args.id)) (c.in-Some.ensures S most h s)
