use Rattle.std.proofs.Common.{◌<◌, length, arith}
use Rattle.eo_base.specs.Limits.{calls_limit}
use Rattle.eo_sig.specs.Reading.{signature}
use Rattle.eo_eval.proofs.Frames.{require_value, require_missed}
use Rattle.eo_eval.proofs.machine.Machine.require.Goals as goal

pub proceed-requires-clause-proceeds : goal.proceed-requires-clause-proceeds
proceed-requires-clause-proceeds c =
    let ts = c.args.table.now.trees in
    let live : c.arg-part.result < length ts = omega (arith, c.arg-part.ensures.older, c.requires.more.0) in
    require_value (signature ts c.args.sig.now) calls_limit ts c.args.self.now.scope c.args.now.now c.args.id c.arg-part.result c.deepest-deepest.result c.args.left live c.requires.more c.deepest-deepest.ensures c.in-Some.first (c.in-Some.ensures.live (length ts) c.requires.given.ready.stands.now_live) (c.in-Some.ensures.some ts) c.arg-part.ensures.tree

pub proceed-requires-in-None-clause-proceeds : goal.proceed-requires-in-None-clause-proceeds
proceed-requires-in-None-clause-proceeds c =
    let ts = c.args.table.now.trees in
    let live : c.arg-part.result < length ts = omega (arith, c.arg-part.ensures.older, c.requires.more.0) in
    require_missed (signature ts c.args.sig.now) calls_limit ts c.args.self.now.scope c.args.now.now c.args.id c.arg-part.result c.deepest-deepest.result c.args.left live c.requires.more c.deepest-deepest.ensures (c.in-None.ensures.none ts) c.arg-part.ensures.tree
