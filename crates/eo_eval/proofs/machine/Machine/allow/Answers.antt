use Rattle.std.proofs.Common.{◌≡◌, ◌∙◌, ◌<◌, sym, max, length, arith, rules}
use Rattle.eo_base.specs.Limits.{calls_limit}
use Rattle.eo_sig.specs.Reading.{signature}
use Rattle.eo_stack.specs.Reading.{depth_of}
use Rattle.eo_eval.proofs.Frames.{required_equal}
use Rattle.eo_eval.proofs.machine.Machine.allow.Goals as goal

pub proceed-requires-clause-proceeds : goal.proceed-requires-clause-proceeds
proceed-requires-clause-proceeds c =
    let ts = c.args.table.now.trees in
    let live : c.arg-part.result < length ts = omega (arith, c.arg-part.ensures.older, c.requires.more.0) in
    let deep : c.max-deepest.result ≡ max c.args.before (depth_of c.args.now.now) = search rules in
    required_equal (signature ts c.args.sig.now) calls_limit ts c.args.self.now.scope c.args.now.now c.args.id c.arg-part.result c.max-deepest.result c.args.left live c.requires.more c.args.first c.args.before deep (sym c.is_given.ensures ∙ c.if-not-is_given.false) c.arg-part.ensures.tree
