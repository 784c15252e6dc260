use Rattle.std.proofs.Common.{List, ℕ, ◌∙◌, subst}
use Rattle.eo_base.specs.declared.Status.TheVariants.{Ok}
use Rattle.eo_run.specs.Answer.{WritesDue}
use Rattle.eo_run.specs.Pieces.{line_due, counts_due}
use Rattle.eo_run.proofs.PrintLemmas.{counts_line}
use Rattle.eo_run.proofs.printing.print_counts.Goals as goal

pub returns-clause-due : goal.returns-clause-due
unfolding counts_due
returns-clause-due g c =
    subst (λ (text : List ℕ). WritesDue c.print_line.result (line_due Ok text) (g.W.Sink.written c.args.out.now) (g.W.Sink.written c.print_line.new.out))
    (c.counts_pieces-pieces.ensures
    ∙ counts_line c.args.n c.args.commands c.args.terms _ _ _ (c.as_bytes.ensures.value ∙ c.format.ensures.text) (c.as_bytes-2.ensures.value ∙ c.format-2.ensures.text) (c.as_bytes-3.ensures.value ∙ c.format-3.ensures.text))
    c.print_line.ensures.due
