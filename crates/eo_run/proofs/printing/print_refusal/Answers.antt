use Rattle.std.proofs.Common.{List, ℕ, refl, ap, ◌∙◌, ◌++◌, subst}
use Rattle.eo_base.specs.declared.Status.TheVariants.{Refused}
use Rattle.eo_run.specs.Verdict.{Refusal}
use Rattle.eo_run.specs.Answer.{WritesDue}
use Rattle.eo_run.specs.Printed.{two_digits}
use Rattle.eo_run.specs.Pieces.{line_due, refused_due}
use Rattle.eo_run.proofs.PrintLemmas.{refusal_line}
use Rattle.eo_run.proofs.printing.print_refusal.Goals as goal

pub returns-clause-due : goal.returns-clause-due
unfolding refused_due
returns-clause-due g c =
    let fault = c.args.fault.now in
    let zero = c.leading_zero.result.now in
    let r : Refusal = record { name = fault.name; file = c.args.path.now; line = fault.place.line; offset = fault.place.offset } in
    subst (λ (text : List ℕ). WritesDue c.print_line.result (line_due Refused text) (g.W.Sink.written c.args.out.now) (g.W.Sink.written c.print_line.new.out))
    (c.refusal_pieces-pieces.ensures
    ∙ refusal_line zero c.as_bytes.result.now c.as_bytes-2.result.now c.args.path.now c.as_bytes-3.result.now c.as_bytes-4.result.now r
    (ap (λ d. zero ++ d) (c.as_bytes.ensures.value ∙ c.format.ensures.text) ∙ c.leading_zero.ensures ∙ ap two_digits c.number-number.ensures)
    (c.as_bytes-2.ensures.value ∙ c.text.ensures) refl (c.as_bytes-3.ensures.value ∙ c.format-2.ensures.text) (c.as_bytes-4.ensures.value ∙ c.format-3.ensures.text))
    c.print_line.ensures.due
