use Rattle.std.proofs.Common.{sym, ap, ◌∙◌, subst}
use Rattle.eo_run.specs.Printed.{Due}
use Rattle.eo_run.specs.Answer.{WritesDue, answer_due}
use Rattle.eo_run.specs.Pieces.{loaded_due}
use Rattle.eo_run.proofs.PrintLemmas.{refusal_at}
use Rattle.eo_run.proofs.printing.print_verdict.Goals as goal

pub returns-in-Correct-clause-due : goal.returns-in-Correct-clause-due
unfolding answer_due
returns-in-Correct-clause-due g c =
    subst (λ (due : Due). WritesDue c.print_line.result due (g.W.Sink.written c.args.out.now) (g.W.Sink.written c.print_line.new.out))
    (ap (answer_due c.args.paths.now) (sym c.in-Correct.is)) c.print_line.ensures.due

pub returns-in-Incomplete-clause-due : goal.returns-in-Incomplete-clause-due
unfolding answer_due
returns-in-Incomplete-clause-due g c =
    subst (λ (due : Due). WritesDue c.print_line-in-Incomplete.result due (g.W.Sink.written c.args.out.now) (g.W.Sink.written c.print_line-in-Incomplete.new.out))
    (ap (answer_due c.args.paths.now) (sym c.in-Incomplete.is)) c.print_line-in-Incomplete.ensures.due

pub returns-in-Loaded-clause-due : goal.returns-in-Loaded-clause-due
unfolding answer_due loaded_due
returns-in-Loaded-clause-due g c =
    subst (λ (due : Due). WritesDue c.print_loaded.result due (g.W.Sink.written c.args.out.now) (g.W.Sink.written c.print_loaded.new.out))
    (ap (answer_due c.args.paths.now) (sym c.in-Loaded.is)) c.print_loaded.ensures.due

pub returns-in-Refused-clause-due : goal.returns-in-Refused-clause-due
unfolding answer_due
returns-in-Refused-clause-due g c =
    subst (λ (due : Due). WritesDue c.print_refusal.result due (g.W.Sink.written c.args.out.now) (g.W.Sink.written c.print_refusal.new.out))
    (refusal_at c.args.paths.now c.in-Refused.fault c.get.result.now c.get.ensures ∙ ap (answer_due c.args.paths.now) (sym c.in-Refused.is)) c.print_refusal.ensures.due

pub returns-in-ReadFault-clause-due : goal.returns-in-ReadFault-clause-due
unfolding answer_due
returns-in-ReadFault-clause-due g c =
    subst (λ (due : Due). WritesDue c.print_line-in-ReadFault.result due (g.W.Sink.written c.args.out.now) (g.W.Sink.written c.print_line-in-ReadFault.new.out))
    (ap (answer_due c.args.paths.now) (sym c.in-ReadFault.is)) c.print_line-in-ReadFault.ensures.due

pub returns-in-OutOfMemory-clause-due : goal.returns-in-OutOfMemory-clause-due
unfolding answer_due
returns-in-OutOfMemory-clause-due g c =
    subst (λ (due : Due). WritesDue c.print_line-in-OutOfMemory.result due (g.W.Sink.written c.args.out.now) (g.W.Sink.written c.print_line-in-OutOfMemory.new.out))
    (ap (answer_due c.args.paths.now) (sym c.in-OutOfMemory.is)) c.print_line-in-OutOfMemory.ensures.due
