use Rattle.std.proofs.Common.{sym, ap, subst}
use Rattle.eo_run.specs.Answer.{WritesDue}
use Rattle.eo_run.specs.Benching.{end_due}
use Rattle.eo_run.specs.Printed.{Due}
use Rattle.eo_run.proofs.printing.print_bench.Goals as goal

pub returns-in-Correct-clause-due : goal.returns-in-Correct-clause-due
unfolding end_due
returns-in-Correct-clause-due g c =
    subst (λ (due : Due). WritesDue c.print_counts.result due (g.W.Sink.written c.args.out.now) (g.W.Sink.written c.print_counts.new.out))
    (ap (end_due c.args.n c.args.paths.now) (sym c.in-Correct.is)) c.print_counts.ensures.due

pub returns-in-Other-clause-due : goal.returns-in-Other-clause-due
unfolding end_due
returns-in-Other-clause-due g c =
    subst (λ (due : Due). WritesDue c.print_verdict.result due (g.W.Sink.written c.args.out.now) (g.W.Sink.written c.print_verdict.new.out))
    (ap (end_due c.args.n c.args.paths.now) (sym c.in-Other.is)) c.print_verdict.ensures.due
