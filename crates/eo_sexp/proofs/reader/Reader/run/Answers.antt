use Rattle.std.proofs.Common.{ap, length, length-take, arith}
use Rattle.std.proofs.lemmas.Result.{IfOk-weaker}
use Rattle.eo_base.specs.Limits.{limits}
use Rattle.eo_sexp.proofs.LimitFacts.{command_is}
use Rattle.eo_sexp.proofs.AheadRuns.{runs-part}
use Rattle.eo_sexp.proofs.reader.Reader.run.Goals as goal

pub run_within-requires-clause-room : goal.run_within-requires-clause-room
run_within-requires-clause-room c =
    omega (arith, length-take c.smaller-most.result c.args.rest.now, c.smaller-most.ensures.a, c.smaller-most.ensures.b, c.saturating_sub-room.ensures, ap length c.bytes.ensures, c.requires.short, command_is)

pub returns-clause-runs : goal.returns-clause-runs
returns-clause-runs c =
    IfOk-weaker c.run_within.result _ _ (λ k h. runs-part limits c.args.buffer.now c.run_within.new.buffer c.args.self.now c.run_within.new.self c.args.rest.now c.smaller-most.result k.taken k.lines k.turn c.smaller-most.ensures.a h) c.run_within.ensures.runs
