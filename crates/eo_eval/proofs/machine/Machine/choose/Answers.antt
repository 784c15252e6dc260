use Rattle.std.proofs.Common.{◌∙◌, ◌<◌, ap, length, arith}
use Rattle.eo_base.specs.Limits.{calls_limit}
use Rattle.eo_sig.specs.Reading.{signature}
use Rattle.eo_term.specs.Tree.{truth}
use Rattle.eo_stack.specs.Evaluation.{Value}
use Rattle.eo_eval.proofs.Frames.{choice_true, choice_false}
use Rattle.eo_eval.proofs.machine.Machine.choose.Goals as goal

pub proceed-requires-clause-proceeds : goal.proceed-requires-clause-proceeds
proceed-requires-clause-proceeds c =
    let ts = c.args.table.now.trees in
    let live : c.arg-part.result < length ts = omega (arith, c.arg-part.ensures.older, c.requires.more.0) in
    choice_true (signature ts c.args.sig.now) calls_limit ts c.args.self.now.scope c.args.now.now c.args.id c.arg-part.result c.deepest-deepest.result c.args.left live c.requires.more c.deepest-deepest.ensures (c.in-Some-true.ensures.some ∙ ap (λ b. Value (truth b)) c.in-Some-true.field-0-test) c.arg-part.ensures.tree

pub proceed-requires-in-Some-false-clause-proceeds : goal.proceed-requires-in-Some-false-clause-proceeds
proceed-requires-in-Some-false-clause-proceeds c =
    let ts = c.args.table.now.trees in
    let part = c.arg-part-in-Some-false.result in
    let live : part < length ts = omega (arith, c.arg-part-in-Some-false.ensures.older, c.requires.more.0) in
    choice_false (signature ts c.args.sig.now) calls_limit ts c.args.self.now.scope c.args.now.now c.args.id part c.deepest-deepest.result c.args.left live c.requires.more c.deepest-deepest.ensures (c.in-Some-false.ensures.some ∙ ap (λ b. Value (truth b)) c.in-Some-false.field-0-test) c.arg-part-in-Some-false.ensures.tree
