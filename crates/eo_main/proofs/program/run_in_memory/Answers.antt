use Rattle.std.proofs.Common.{Some, arith}
use Rattle.eo_main.specs.CommandLine.{request}
use Rattle.eo_main.proofs.program.run_in_memory.Goals as goal

pub returns-clause-complete : goal.returns-clause-complete
returns-clause-complete g c =
    c.completeness_law.ensures (Some c.args.files.now.told) _ (request c.args.words.now) (g.W.Sink.written c.args.out.now) (g.W.Sink.written c.ethos_main.new.out) _ _ _ _
    c.ethos_main.ensures.exact c.ethos_main.ensures.cause (λ rose. omega (arith, rose))
