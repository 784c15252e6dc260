use Rattle.std.proofs.Common.{List, ℕ, ◌∙◌, subst}
use Rattle.eo_base.specs.declared.Status.TheVariants.{Ok}
use Rattle.eo_run.specs.Answer.{WritesDue}
use Rattle.eo_run.specs.Pieces.{line_due, loaded_due}
use Rattle.eo_run.proofs.PrintLemmas.{loaded_text}
use Rattle.eo_run.proofs.printing.print_loaded.Goals as goal

pub returns-clause-due : goal.returns-clause-due
unfolding loaded_due
returns-clause-due g c =
    subst (λ (text : List ℕ). WritesDue c.print_line.result (line_due Ok text) (g.W.Sink.written c.args.out.now) (g.W.Sink.written c.print_line.new.out))
    (loaded_text c.args.commands c.as_bytes-commands.result.now (c.as_bytes-commands.ensures.value ∙ c.format.ensures.text)) c.print_line.ensures.due
